-- What a matched pair saves against two shifts that are left over, as one number.
use Rattle.std.specs.Prelude.{ℕ, ◌+◌, ◌-◌, ◌*◌, Option, None, Some, List, length, nat_eq, if◌then◌else◌}
use Rattle.model_rosters.specs.declared.instance.Shift.{Shift}
use Rattle.model_shift_figures.specs.roster_changes.Totals.{total}
use Rattle.model_shift_figures.specs.roster_changes.Matchings.{shift_at, rank}
use Rattle.model_shift_figures.specs.roster_changes.Changes.{differing_periods}

-- a differing period counts 129, and a differing shift 1: no two rosters have 129 shifts
unfoldable pub weight : ℕ → ℕ
weight differing = 129 * differing + (if nat_eq differing 0 then 0 else 1)

-- what a shift counts that is left over
abbrev pub unit : ℕ → ℕ
unit periods = 129 * periods + 1

-- what the choice of a new shift saves
unfoldable pub gain : ℕ → List Shift → Shift → Option ℕ → ℕ
gain periods old shift None = 0
gain periods old shift (Some place) =
    2 * unit periods - weight (differing_periods periods (shift_at old place) shift)

-- what all choices save
unfoldable pub gains : ℕ → List Shift → List Shift → (ℕ → Option ℕ) → ℕ
gains periods old new chosen = total (length new) (λ (at : ℕ). gain periods old (shift_at new at) (chosen at))

-- how far before the end a choice stands, where the new shift is the one whose turn it is
unfoldable pub lead : ℕ → ℕ → Option ℕ → ℕ
lead row at chosen = if nat_eq at row then 64 - rank chosen else 0

-- what the choice of a new shift counts: savings before all, and then its place for the one whose turn it is
unfoldable pub row_score : ℕ → List Shift → List Shift → ℕ → ℕ → Option ℕ → ℕ
row_score periods old new row at chosen = 65 * gain periods old (shift_at new at) chosen + lead row at chosen

-- what all choices count
unfoldable pub score : ℕ → List Shift → List Shift → ℕ → (ℕ → Option ℕ) → ℕ
score periods old new row chosen =
    total (length new) (λ (at : ℕ). row_score periods old new row at (chosen at))
