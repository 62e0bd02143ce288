-- Rows of whole numbers, and what a step of elimination makes of them.
use Rattle.std.specs.Prelude.{ℕ, ℤ, zero, suc, pos, ◌≤◌, ◌<◌, ◌^◌, List, [], ◌∷◌, All, length, unsigned_abs}
use Rattle.law_bounds.specs.linear_programs.RowStep.{IsCommonFactor, IsRowStep}
use Rattle.lp_fractions.specs.Row.{at}

-- no number is above 2^56 in size
abbrev pub AreNarrow : List ℤ → Type 0
AreNarrow row = All (λ z. unsigned_abs z ≤ 2 ^ 56) row

abbrev pub zeros : ℕ → List ℤ
zeros zero = []
zeros (suc n) = pos 0 ∷ zeros n

-- the numbers have no common factor above 1
abbrev pub IsPrimitive : List ℤ → Type 0
IsPrimitive row = (d : ℕ) × IsCommonFactor (at row) (length row) d × (d ≤ 1)

-- the step of elimination leads to these numbers
abbrev pub StepsTo : List ℤ → ℤ → List ℤ → ℤ → List ℤ → Type 0
StepsTo row p other a left = (g : ℤ) × IsRowStep (length row) p (at row) a (at other) (at left) g

-- the step leads to a number above 2^56 in size
pub record IsWideStep (row : List ℤ) (p : ℤ) (other : List ℤ) (a : ℤ) : Type 0 where
  pub left : ℕ → ℤ
  pub factor : ℤ
  pub step : IsRowStep (length row) p (at row) a (at other) left factor
  pub place : ℕ
  pub within : place < length row
  pub wide : 2 ^ 56 < unsigned_abs (left place)

-- each row has a step by each other row
abbrev pub RowStepsExist : Type 0
RowStepsExist = (n : ℕ) (p : ℤ) (row : ℕ → ℤ) (a : ℤ) (other : ℕ → ℤ) →
    (left : ℕ → ℤ) × (g : ℤ) × IsRowStep n p row a other left g
