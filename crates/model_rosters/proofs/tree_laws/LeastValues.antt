-- The algebra of least values: nothing, two parts, one set for another, and that there is one.
use Rattle.std.proofs.Common.{◌≡◌, ℤ, ◌≤ℤ◌, Option, None, Some, IfSome, arith, refl, subst, sym, ap, ◌∙◌, ◌⊎◌, inl, inr}
use Rattle.std.proofs.lemmas.Int.{ints}
use Rattle.std.specs.Prelude.{IsSome, OnSome}
use Rattle.model_rosters.specs.Sums.{IsLeast, IsLesser, AtMost, plus}

≤ℤ-trans : (a b c : ℤ) → a ≤ℤ b → b ≤ℤ c → a ≤ℤ c
≤ℤ-trans a b c h k = omega (arith, ints)

-- at most, and at most again
pub AtMost-trans : (a b c : Option ℤ) → AtMost a b → AtMost b c → AtMost a c
AtMost-trans a b None h k = tt
AtMost-trans None None (Some z) h k = k
AtMost-trans None (Some y) (Some z) h k = absurd h
AtMost-trans (Some x) None (Some z) h k = absurd k
AtMost-trans (Some x) (Some y) (Some z) h k = ≤ℤ-trans x y z h k

-- a value is at most itself
pub AtMost-refl : (v : Option ℤ) → AtMost v v
AtMost-refl None = tt
AtMost-refl (Some z) = omega (arith, ints)

-- nothing is above none
pub AtMost-none : (v : Option ℤ) → AtMost v None
AtMost-none None = tt
AtMost-none (Some z) = tt

-- values that are at most each other are one
pub AtMost-same : (a b : Option ℤ) → AtMost a b → AtMost b a → a ≡ b
AtMost-same None None h k = refl
AtMost-same None (Some z) h k = absurd h
AtMost-same (Some y) None h k = absurd k
AtMost-same (Some y) (Some z) h k = ap Some (omega (arith, ints))

-- the lesser of nothing and v is v
pub IsLesser-none : (v : Option ℤ) → IsLesser v None v
IsLesser-none v = record { one = inl refl; left = AtMost-refl v; right = AtMost-none v }

module _ {A : Type 0} where
  -- where nothing meets P, there is no least sum
  pub IsLeast-empty : (P : A → Type 0) (sum : A → Option ℤ) → ((a : A) → P a → ⊥) → IsLeast P sum None
  IsLeast-empty P sum never = record { attained = tt; least = λ a h. absurd (never a h) }

  -- what meets the same has the same least sum
  pub IsLeast-same : (P Q : A → Type 0) (sum : A → Option ℤ) (v : Option ℤ)
      → ((a : A) → P a → Q a) → ((a : A) → Q a → P a) → IsLeast P sum v → IsLeast Q sum v
  IsLeast-same P Q sum None to from h = record { attained = tt; least = λ a q. h.least a (from a q) }
  IsLeast-same P Q sum (Some z) to from h =
      record { attained = (h.attained.0, to h.attained.0 h.attained.1, h.attained.2); least = λ a q. h.least a (from a q) }

  -- what meets R meets P or Q
  pub IsLeast-union : (P Q R : A → Type 0) (sum : A → Option ℤ) (v w u : Option ℤ)
      → ((a : A) → P a → R a) → ((a : A) → Q a → R a) → ((a : A) → R a → P a ⊎ Q a)
      → IsLesser v w u → IsLeast P sum v → IsLeast Q sum w → IsLeast R sum u
  IsLeast-union P Q R sum v w u p q split lesser hv hw =
      record { attained = attained u lesser.one; least = λ a r. below a (split a r) }
    where
      from : (X : A → Type 0) → ((a : A) → X a → R a) → (t s : Option ℤ) → t ≡ s → IfSome s (λ z. (a : A) × X a × (sum a ≡ Some z)) → IfSome t (λ z. (a : A) × R a × (sum a ≡ Some z))
      from X into None s e h = tt
      from X into (Some z) None e h = cc
      from X into (Some z) (Some y) e h = (h.0, into h.0 h.1, cc)

      attained : (t : Option ℤ) → (t ≡ v) ⊎ (t ≡ w) → IfSome t (λ z. (a : A) × R a × (sum a ≡ Some z))
      attained t (inl e) = from P p t v e hv.attained
      attained t (inr e) = from Q q t w e hw.attained

      below : (a : A) → P a ⊎ Q a → AtMost u (sum a)
      below a (inl h) = AtMost-trans u v (sum a) lesser.left (hv.least a h)
      below a (inr h) = AtMost-trans u w (sum a) lesser.right (hw.least a h)

  -- sums that agree on what meets P have the same least one
  pub IsLeast-sums : (P : A → Type 0) (f h : A → Option ℤ) (v : Option ℤ) → ((a : A) → P a → f a ≡ h a) → IsLeast P f v → IsLeast P h v
  IsLeast-sums P f h None e l = record { attained = tt; least = λ a q. subst (λ y. AtMost None y) (e a q) (l.least a q) }
  IsLeast-sums P f h (Some z) e l =
      record { attained = (l.attained.0, l.attained.1, sym (e l.attained.0 l.attained.1) ∙ l.attained.2); least = λ a q. subst (λ y. AtMost (Some z) y) (e a q) (l.least a q) }

  -- a least value is at most each other least value of the same sums
  IsLeast-below : (P : A → Type 0) (sum : A → Option ℤ) (v w : Option ℤ) → IsLeast P sum v → IsLeast P sum w → AtMost v w
  IsLeast-below P sum v None h k = AtMost-none v
  IsLeast-below P sum v (Some z) h k = subst (λ y. AtMost v y) k.attained.2 (h.least k.attained.0 k.attained.1)

  -- there is one least value
  pub IsLeast-one : (P : A → Type 0) (sum : A → Option ℤ) (v w : Option ℤ) → IsLeast P sum v → IsLeast P sum w → v ≡ w
  IsLeast-one P sum v w h k = AtMost-same v w (IsLeast-below P sum v w h k) (IsLeast-below P sum w v k h)

-- where something has a sum, there is a least one
pub least_there : {A : Type 0} (P : A → Type 0) (sum : A → Option ℤ) (v : Option ℤ) (a : A) → IsLeast P sum v → P a → IsSome (sum a) → (y : ℤ) × (v ≡ Some y)
least_there P sum (Some y) a h k some = (y, refl)
least_there P sum None a h k some = absurd (none (sum a) (h.least a k) some)
  where
    none : (w : Option ℤ) → AtMost None w → IsSome w → ⊥
    none None m s = cc
    none (Some z) m s = m

-- a sum that is there has both its parts
pub left_there : (a b : Option ℤ) (z : ℤ) → plus a b ≡ Some z → (y : ℤ) × (a ≡ Some y)
left_there None b z e = cc
left_there (Some y) b z e = (y, refl)

pub right_there : (a b : Option ℤ) (z : ℤ) → plus a b ≡ Some z → (y : ℤ) × (b ≡ Some y)
right_there None b z e = cc
right_there (Some y) None z e = cc
right_there (Some y) (Some x) z e = (x, refl)

-- where there is a sum, what holds at a sum holds
pub at_sum : (v : Option ℤ) (z : ℤ) (P : Type 0) → v ≡ Some z → OnSome v P → P
at_sum None z P e h = cc
at_sum (Some y) z P e h = h
