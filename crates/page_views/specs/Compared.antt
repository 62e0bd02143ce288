-- What differs between a roster and an old one.
use Rattle.std.specs.Prelude.{ℕ, ◌≡◌, ◌+◌, ◌≤◌, Bool, true, false, Option, None, Some, List, [], ◌∷◌, length, map, nat_eq, slice_get, slice_index, if◌then◌else◌}
use Rattle.model_rosters.specs.declared.instance.Shift.{Shift}
use Rattle.page_parts.specs.Elements.{places}
use Rattle.page_text.specs.declared.changes.Changes.{Changes}
use Rattle.model_shift_figures.specs.roster_changes.Changes.{IsLeastMatching, changed_periods, changed_shifts}
use Rattle.model_shift_figures.specs.roster_changes.Matchings.{choice}
use Rattle.page_views.specs.declared.compare.Comparison.{Comparison}

-- two shifts have different letters in a period, which counts from 0
abbrev pub differs_in : Shift → Shift → ℕ → Bool
differs_in before after period =
    if nat_eq (slice_index before.word period) (slice_index after.word period) then false else true

-- the periods in which a shift differs from its old one
abbrev pub pair_marks : ℕ → Shift → Shift → List Bool
pair_marks periods before after = map (differs_in before after) (places periods)

-- a shift without an old one differs in each period
abbrev pub all_marks : ℕ → List Bool
all_marks periods = map (λ (period : ℕ). true) (places periods)

-- the periods in which a shift differs from the old one at a place
unfoldable pub marks_from : ℕ → List Shift → Shift → ℕ → List Bool
marks_from periods old shift place =
    elim (slice_get old place) [ None ↦ all_marks periods | Some before ↦ pair_marks periods before shift ]

-- the periods in which a shift differs from the old one that is chosen for it
unfoldable pub shift_marks : ℕ → List Shift → Shift → Option ℕ → List Bool
shift_marks periods old shift None = all_marks periods
shift_marks periods old shift (Some place) = marks_from periods old shift place

-- the same of shifts from a place on
abbrev pub marks_behind : ℕ → List Shift → List (Option ℕ) → ℕ → List Shift → List (List Bool)
marks_behind periods old matching k [] = []
marks_behind periods old matching k (s ∷ ss) =
    shift_marks periods old s (choice matching k) ∷ marks_behind periods old matching (k + 1) ss

abbrev pub roster_marks : ℕ → List Shift → List (Option ℕ) → List Shift → List (List Bool)
roster_marks periods old matching new = marks_behind periods old matching 0 new

-- how much differs under a matching
abbrev pub matched_changes : ℕ → List Shift → List (Option ℕ) → List Shift → Changes
matched_changes periods old matching new = record {
  shifts = changed_shifts periods old new (choice matching);
  periods = changed_periods periods old new (choice matching);
}

-- what differs from an old roster under the matching that differs least
pub record IsBeside (periods : ℕ) (old new : List Shift) (c : Comparison) : Type 0 where
  pub few : length old ≤ 64
  pub matching : List (Option ℕ)
  pub least : IsLeastMatching periods old new matching
  pub marks : c.marks ≡ roster_marks periods old matching new
  pub changes : c.changes ≡ Some (matched_changes periods old matching new)

-- the same; without an old roster nothing is marked and nothing counted
abbrev pub IsCompared : ℕ → Option (List Shift) → List Shift → Comparison → Type 0
IsCompared periods None new c = (c.marks ≡ []) × (c.changes ≡ None)
IsCompared periods (Some old) new c = IsBeside periods old new c
