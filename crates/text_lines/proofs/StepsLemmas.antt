-- What an Ok answer says of the steps that gave it, and the steps of longer lists.
use Rattle.std.proofs.Common.{◌≡◌, ℕ, suc, Bool, true, false, cond, List, [], ◌∷◌, ◌++◌, take, drop, Result, Ok, Err, refl, subst}
use Rattle.text_lines.specs.Steps.{◌>>=◌, each}

abbrev pub ok : {E A : Type 0} → A → Result A E
ok x = Ok x

abbrev pub err : {E A : Type 0} → E → Result A E
err e = Err e

pub same_ok : {E A : Type 0} (x y : A) → ok {E = E} x ≡ ok y → x ≡ y
same_ok x y e = cc

-- both steps were Ok
pub bind_ok : {E A B : Type 0} (r : Result A E) (f : A → Result B E) (b : B) → (r >>= f) ≡ Ok b → (a : A) × (r ≡ Ok a) × (f a ≡ Ok b)
bind_ok (Ok a) f b e = (a, refl, e)
bind_ok (Err d) f b e = absurd cc

-- the test that would refuse failed
pub passed : {E A : Type 0} (t : Bool) (d : E) (r : Result A E) (x : A) → cond t (err d) r ≡ Ok x → (t ≡ false) × (r ≡ Ok x)
passed true d r x e = absurd cc
passed false d r x e = (refl, e)

-- the test that was due passed
pub held : {E A : Type 0} (t : Bool) (d : E) (r : Result A E) (x : A) → cond t r (err d) ≡ Ok x → (t ≡ true) × (r ≡ Ok x)
held true d r x e = (refl, e)
held false d r x e = absurd cc

-- what each step keeps holds at the end
pub each_keeps : {E S W : Type 0} (f : S → W → Result S E) (P : S → Type 0) (step : (s t : S) (w : W) → P s → f s w ≡ Ok t → P t) (s t : S) (ws : List W) → P s → each f s ws ≡ Ok t → P t
each_keeps {E} f P step s t [] p e = subst P (same_ok {E = E} s t e) p
each_keeps {E} {S} f P step s t (w ∷ ws) p e =
    let first = bind_ok (f s w) (λ (u : S). each f u ws) t e in
    each_keeps f P step first.0 t ws (step s first.0 w p first.1) first.2

module _ {E S W : Type 0} (f : S → W → Result S E) where
  pub each_step : (s t : S) (ws rest : List W) (w : W) (n m : ℕ) → ws ≡ w ∷ rest → n ≡ suc m → f s w ≡ Ok t → each f s (take n ws) ≡ each f t (take m rest)
  each_step s t ws rest w n m e k h = rw (e, k, h) refl

  pub each_fails : (s : S) (ws rest : List W) (w : W) (n m : ℕ) (d : E) → ws ≡ w ∷ rest → n ≡ suc m → f s w ≡ Err d → each f s (take n ws) ≡ Err d
  each_fails s ws rest w n m d e k h = rw (e, k, h) refl

  -- the steps of a longer list
  pub each-append : (s : S) (xs ys : List W) → each f s (xs ++ ys) ≡ (each f s xs >>= λ t. each f t ys)
  each-append s [] ys = refl
  each-append s (x ∷ xs) ys = by (f s x) (λ t. each-append t xs ys)
    where
      by : (r : Result S E) → ((t : S) → each f t (xs ++ ys) ≡ (each f t xs >>= λ u. each f u ys)) → (r >>= λ t. each f t (xs ++ ys)) ≡ ((r >>= λ t. each f t xs) >>= λ t. each f t ys)
      by (Ok t) h = h t
      by (Err d) h = refl

pub drop_step : {W : Type 0} (ws rest : List W) (w : W) (n m : ℕ) → ws ≡ w ∷ rest → n ≡ suc m → drop n ws ≡ drop m rest
drop_step ws rest w n m e k = rw (e, k) refl
