-- The lines of codes that were read.
use Rattle.std.proofs.Common.{◌≡◌, ◌≢◌, ◌⊎◌, inl, inr, ℕ, Bool, true, false, cond, eqb, List, [], ◌∷◌, Option, Some, None, Ok, refl, sym, ap, ◌∙◌, subst}
use Rattle.std.proofs.lemmas.Bool.Decides.{eqb_tells}
use Rattle.text_lines.proofs.StepsLemmas.{bind_ok, same_ok}
use Rattle.model_rosters.specs.Folds.{Each, In}
use Rattle.plan_faults.specs.declared.fault.LineFault.{LineFault}
use Rattle.plan_fields.specs.Codes.{coded, known_at, known_or, new_at, new_or}
use Rattle.plan_fields.specs.Steps.{quoted}
use Rattle.plan_meaning.specs.declared.plan.PlanCode.{PlanCode}
use Rattle.plan_words.specs.NameWords.{code_at}

same_some : (x y : PlanCode) → Some x ≡ Some y → x ≡ y
same_some x y e = cc

-- the first line of a code is one of the lines
pub coded_in : (xs : List PlanCode) (c : ℕ) (x : PlanCode) → coded xs c ≡ Some x → In x xs × (x.code ≡ c)
coded_in [] c x e = absurd cc
coded_in (y ∷ ys) c x e = go (eqb_tells y.code c) e (coded_in ys c x)
  where
    go : ((eqb y.code c ≡ true) × (y.code ≡ c)) ⊎ ((eqb y.code c ≡ false) × (y.code ≢ c)) → cond (eqb y.code c) (Some y) (coded ys c) ≡ Some x
        → (coded ys c ≡ Some x → In x ys × (x.code ≡ c)) → In x (y ∷ ys) × (x.code ≡ c)
    go (inl t) h later =
        let same : y ≡ x = same_some y x (subst (λ (b : Bool). cond b (Some y) (coded ys c) ≡ Some x) t.0 h) in
        (inl (sym same), ap (λ (z : PlanCode). z.code) (sym same) ∙ t.1)
    go (inr f) h later =
        let r = later (subst (λ (b : Bool). cond b (Some y) (coded ys c) ≡ Some x) f.0 h) in
        (inr r.0, r.1)

-- a code that no line has
pub coded_none : (xs : List PlanCode) (c : ℕ) → coded xs c ≡ None → Each (λ (x : PlanCode). x.code ≢ c) xs
coded_none [] c e = tt
coded_none (y ∷ ys) c e = go (eqb_tells y.code c) e (coded_none ys c)
  where
    go : ((eqb y.code c ≡ true) × (y.code ≡ c)) ⊎ ((eqb y.code c ≡ false) × (y.code ≢ c)) → cond (eqb y.code c) (Some y) (coded ys c) ≡ None
        → (coded ys c ≡ None → Each (λ (x : PlanCode). x.code ≢ c) ys) → Each (λ (x : PlanCode). x.code ≢ c) (y ∷ ys)
    go (inl t) h later =
        let none : Some y ≡ None = subst (λ (b : Bool). cond b (Some y) (coded ys c) ≡ None) t.0 h in absurd cc
    go (inr f) h later = (f.1, later (subst (λ (b : Bool). cond b (Some y) (coded ys c) ≡ None) f.0 h))

pub known_in : (xs : List PlanCode) (w : List ℕ) (x : PlanCode) → known_at xs w ≡ Ok x → In x xs
unfolding known_at
known_in xs w x e =
    let c = bind_ok (quoted w (code_at w)) _ _ e in
    by c.0 (coded xs c.0) (coded_in xs c.0 x) c.2
  where
    by : (c : ℕ) (o : Option PlanCode) → (o ≡ Some x → In x xs × (x.code ≡ c)) → known_or c o ≡ Ok x → In x xs
    by c None found q = absurd cc
    by c (Some y) found q = (found (ap (λ (z : PlanCode). Some z) (same_ok {E = LineFault} y x q))).0

-- a new code is none of the lines'
pub new_is : (xs : List PlanCode) (w : List ℕ) (n : ℕ) → new_at xs w ≡ Ok n → Each (λ (x : PlanCode). x.code ≢ n) xs
unfolding new_at
new_is xs w n e =
    let c = bind_ok (quoted w (code_at w)) _ _ e in
    by c.0 (coded xs c.0) (coded_none xs c.0) c.2
  where
    by : (c : ℕ) (o : Option PlanCode) → (o ≡ None → Each (λ (x : PlanCode). x.code ≢ c) xs) → new_or c o ≡ Ok n → Each (λ (x : PlanCode). x.code ≢ n) xs
    by c None none q = subst (λ (k : ℕ). Each (λ (x : PlanCode). x.code ≢ k) xs) (same_ok {E = LineFault} c n q) (none refl)
    by c (Some y) none q = absurd cc
