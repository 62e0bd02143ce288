-- The first choices are fixed one after another.
use Rattle.std.specs.Prelude.{ℕ, ◌≡◌, ◌+◌, ◌<◌, ◌≤◌, ◌⊎◌, Option, None, Some, List, [], length}
use Rattle.model_rosters.specs.declared.instance.Shift.{Shift}
use Rattle.model_shift_figures.specs.roster_changes.Matchings.{choice, IsFree, IsPair, ComesFirst}
use Rattle.model_shift_figures.specs.roster_changes.Scores.{gains, row_score, score}

-- a choice may follow those before it: an old shift is of the group, and none before has it
abbrev pub MayFollow : List Shift → List Shift → (ℕ → Option ℕ) → ℕ → Option ℕ → Type 0
MayFollow old new chosen at None = Unit {0}
MayFollow old new chosen at (Some place) = IsPair old new at place × IsFree at chosen place

-- each of the first choices may follow those before it
abbrev pub Fits : List Shift → List Shift → ℕ → (ℕ → Option ℕ) → Type 0
Fits old new count chosen = (at : ℕ) → at < count → MayFollow old new chosen at (chosen at)

-- both have the same first choices
abbrev pub Extends : ℕ → (ℕ → Option ℕ) → (ℕ → Option ℕ) → Type 0
Extends count first chosen = (at : ℕ) → at < count → chosen at ≡ first at

-- choices for all new shifts that begin with the fixed ones
pub record IsCandidate (old new : List Shift) (count : ℕ) (fixed chosen : ℕ → Option ℕ) : Type 0 where
  pub fits : Fits old new (length new) chosen
  pub extends : Extends count fixed chosen

-- a new shift may have an old one in choices that begin with the fixed ones
pub record IsOpen (old new : List Shift) (fixed : List (Option ℕ)) (at place : ℕ) : Type 0 where
  pub pair : IsPair old new at place
  pub early : at < length fixed → choice fixed at ≡ Some place
  pub late : length fixed ≤ at → IsFree (length fixed) (choice fixed) place

-- a pair that may be had scores no more than the price of the new shift and that of the old one
abbrev pub IsPriced : ℕ → List Shift → List Shift → List (Option ℕ) → (ℕ → ℕ) → (ℕ → ℕ) → ℕ → ℕ → Type 0
IsPriced periods old new fixed p q at place =
    IsOpen old new fixed at place → row_score periods old new (length fixed) at (Some place) ≤ p at + q place

-- so does each pair of a new shift
abbrev pub IsRowPriced : ℕ → List Shift → List Shift → List (Option ℕ) → (ℕ → ℕ) → (ℕ → ℕ) → ℕ → Type 0
IsRowPriced periods old new fixed p q at = (place : ℕ) → IsPriced periods old new fixed p q at place

-- so does each pair
abbrev pub ArePrices : ℕ → List Shift → List Shift → List (Option ℕ) → (ℕ → ℕ) → (ℕ → ℕ) → Type 0
ArePrices periods old new fixed p q = (at : ℕ) → at < length new → IsRowPriced periods old new fixed p q at

-- of all choices that begin with the fixed ones these score the most, where the turn is at a row
pub record IsBest (periods : ℕ) (old new : List Shift) (row : ℕ) (fixed matching : List (Option ℕ))
    : Type 0 where
  pub len : length matching ≡ length new
  pub candidate : IsCandidate old new (length fixed) (choice fixed) (choice matching)
  pub most : (others : ℕ → Option ℕ) → IsCandidate old new (length fixed) (choice fixed) others
      → score periods old new row others ≤ score periods old new row (choice matching)

-- a choice is none, or one of the first old shifts
abbrev pub IsBelow : ℕ → Option ℕ → Type 0
IsBelow limit None = Unit {0}
IsBelow limit (Some place) = place < limit

-- these score the most of those whose next choice is none or one of the first old shifts
pub record IsBestBelow (periods : ℕ) (old new : List Shift) (row : ℕ) (fixed : List (Option ℕ)) (limit : ℕ)
    (matching : List (Option ℕ)) : Type 0 where
  pub len : length matching ≡ length new
  pub candidate : IsCandidate old new (length fixed) (choice fixed) (choice matching)
  pub most : (others : ℕ → Option ℕ) → IsCandidate old new (length fixed) (choice fixed) others
      → IsBelow limit (others (length fixed))
      → score periods old new row others ≤ score periods old new row (choice matching)

-- of all choices that begin with the fixed ones these save the most, and of these they come first
pub record IsFirst (periods : ℕ) (old new : List Shift) (count : ℕ) (fixed chosen : ℕ → Option ℕ)
    : Type 0 where
  pub candidate : IsCandidate old new count fixed chosen
  pub first : (others : ℕ → Option ℕ) → IsCandidate old new count fixed others
      → (gains periods old new others < gains periods old new chosen)
      ⊎ ((gains periods old new others ≡ gains periods old new chosen)
      × ComesFirst (length new) chosen others)

-- a choice may be the next: it is that of best choices which begin with the fixed ones
abbrev pub IsNext : ℕ → List Shift → List Shift → List (Option ℕ) → Option ℕ → Type 0
IsNext periods old new fixed chosen =
    (best : List (Option ℕ)) × IsBest periods old new (length fixed) fixed best
    × (choice best (length fixed) ≡ chosen)

-- between two new shifts: whatever finishes the fixed choices best is the first of all
pub record IsFixing (periods : ℕ) (old new : List Shift) (fixed : List (Option ℕ)) : Type 0 where
  pub within : length fixed ≤ length new
  pub fits : Fits old new (length fixed) (choice fixed)
  pub leads : (chosen : ℕ → Option ℕ) → IsFirst periods old new (length fixed) (choice fixed) chosen
      → IsFirst periods old new 0 (choice []) chosen
