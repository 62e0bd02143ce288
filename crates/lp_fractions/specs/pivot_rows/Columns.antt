-- Columns by their entries that are not 0.
use Rattle.std.specs.Prelude.{ℕ, ℤ, pos, ◌≡◌, ◌≤◌, ◌<◌, cond, nat_eq, List, [], ◌∷◌, unsigned_abs}
use Rattle.model_rosters.specs.Folds.{Each}
use Rattle.lp_fractions.specs.declared.pivot_rows.column.Place.{Place}

-- the entry in a row, 0 where no place has it
abbrev pub number_in : List Place → ℕ → ℤ
number_in [] r = pos 0
number_in (p ∷ ps) r = cond (nat_eq p.row r) p.value (number_in ps r)

-- the rows of the places rise
abbrev pub AreRising : List Place → Type 0
AreRising [] = Unit {0}
AreRising (p ∷ ps) = Each (λ (q : Place). p.row < q.row) ps × AreRising ps

-- the rows of the places are below n
abbrev pub AreWithin : ℕ → List Place → Type 0
AreWithin n ps = Each (λ (p : Place). p.row < n) ps

-- each entry is -1, 0 or 1
abbrev pub AreUnits : List Place → Type 0
AreUnits ps = Each (λ (p : Place). unsigned_abs p.value ≤ 1) ps

-- the places tell the n entries of a column
pub record IsColumn (n : ℕ) (entry : ℕ → ℤ) (ps : List Place) : Type 0 where
  pub within : AreWithin n ps
  pub rising : AreRising ps
  pub numbers : (r : ℕ) → r < n → entry r ≡ number_in ps r
