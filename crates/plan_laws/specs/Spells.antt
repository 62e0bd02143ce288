-- The greatest runs of periods at which a code costs the same.
use Rattle.std.specs.Prelude.{ℕ, zero, suc, ◌+◌, cond, nat_eq, List, [], ◌∷◌}

-- periods from lo to hi, at one cost
pub record Spell : Type 0 where
  pub lo : ℕ
  pub hi : ℕ
  pub cost : ℕ

-- a period before the spells, at its cost
abbrev pub joined_to : ℕ → ℕ → List Spell → List Spell
joined_to t c [] = record { lo = t; hi = t; cost = c } ∷ []
joined_to t c (s ∷ ss) =
    cond (nat_eq s.cost c) (record { lo = t; hi = s.hi; cost = s.cost } ∷ ss)
    (record { lo = t; hi = t; cost = c } ∷ s ∷ ss)

-- the spells of n periods from t on
abbrev pub spells : (ℕ → ℕ) → ℕ → ℕ → List Spell
spells f t zero = []
spells f t (suc n) = joined_to t (f t) (spells f (t + 1) n)
