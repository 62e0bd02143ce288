-- What differs between two rosters, and which matching tells it.
use Rattle.std.specs.Prelude.{ℕ, ◌≡◌, ◌+◌, ◌-◌, ◌*◌, ◌<◌, ◌⊎◌, Option, None, Some, List, length, nat_eq, slice_index, if◌then◌else◌}
use Rattle.model_rosters.specs.declared.instance.Shift.{Shift}
use Rattle.model_shift_figures.specs.roster_changes.Totals.{total}
use Rattle.model_shift_figures.specs.roster_changes.Matchings.{shift_at, choice, IsMatching, ComesFirst}

-- 1 where two shifts have different letters in the period, which counts from 0
unfoldable pub difference : Shift → Shift → ℕ → ℕ
difference before after period =
    if nat_eq (slice_index before.word period) (slice_index after.word period) then 0 else 1

-- in how many periods of the day two shifts have different letters
unfoldable pub differing_periods : ℕ → Shift → Shift → ℕ
differing_periods periods before after = total periods (difference before after)

-- in how many periods a new shift differs from its old one: without one in all
unfoldable pub periods_of : ℕ → List Shift → Shift → Option ℕ → ℕ
periods_of periods old shift None = periods
periods_of periods old shift (Some place) = differing_periods periods (shift_at old place) shift

-- 1 where a new shift differs from its old one at all, or has none
unfoldable pub shifts_of : ℕ → List Shift → Shift → Option ℕ → ℕ
shifts_of periods old shift None = 1
shifts_of periods old shift (Some place) =
    if nat_eq (differing_periods periods (shift_at old place) shift) 0 then 0 else 1

-- 1 where a new shift has an old one
unfoldable pub pairs_of : Option ℕ → ℕ
pairs_of None = 0
pairs_of (Some place) = 1

-- how many old shifts no new shift has: all but one for each pair
unfoldable pub left_over : List Shift → List Shift → (ℕ → Option ℕ) → ℕ
left_over old new chosen = length old - total (length new) (λ (at : ℕ). pairs_of (chosen at))

-- in how many periods all shifts differ: those of the pairs, and all of each shift that is left over
unfoldable pub changed_periods : ℕ → List Shift → List Shift → (ℕ → Option ℕ) → ℕ
changed_periods periods old new chosen =
    total (length new) (λ (at : ℕ). periods_of periods old (shift_at new at) (chosen at))
    + periods * left_over old new chosen

-- how many shifts differ: pairs that differ at all, and shifts that are left over
unfoldable pub changed_shifts : ℕ → List Shift → List Shift → (ℕ → Option ℕ) → ℕ
changed_shifts periods old new chosen =
    total (length new) (λ (at : ℕ). shifts_of periods old (shift_at new at) (chosen at))
    + left_over old new chosen

-- fewer periods differ; or as many, and fewer shifts; or as many, and the choices come first
abbrev pub ComesBefore : ℕ → List Shift → List Shift → (ℕ → Option ℕ) → (ℕ → Option ℕ) → Type 0
ComesBefore periods old new chosen others =
    (changed_periods periods old new chosen < changed_periods periods old new others)
    ⊎ ((changed_periods periods old new chosen ≡ changed_periods periods old new others)
    × ((changed_shifts periods old new chosen < changed_shifts periods old new others)
    ⊎ ((changed_shifts periods old new chosen ≡ changed_shifts periods old new others)
    × ComesFirst (length new) chosen others)))

-- of all matchings the one with the fewest differing periods, then shifts, then the first
pub record IsLeastMatching (periods : ℕ) (old new : List Shift) (matching : List (Option ℕ)) : Type 0 where
  pub is_matching : IsMatching old new matching
  pub least : (other : List (Option ℕ)) → IsMatching old new other
      → ComesBefore periods old new (choice matching) (choice other)
