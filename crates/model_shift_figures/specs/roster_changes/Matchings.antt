-- Matchings of the shifts of two rosters: for each new shift the place of its old one.
use Rattle.std.specs.Prelude.{ℕ, ◌≡◌, ◌≢◌, ◌<◌, ◌≤◌, Option, None, Some, List, [], length, slice_index_or}
use Rattle.model_rosters.specs.declared.instance.Shift.{Shift}

-- the shift at a place; past the end one without a period
abbrev pub shift_at : List Shift → ℕ → Shift
shift_at shifts place = slice_index_or shifts place (record { group = 0; word = []; price = 0 })

-- which old shift the new shift at a place has
abbrev pub choice : List (Option ℕ) → ℕ → Option ℕ
choice matching at = slice_index_or matching at None

-- none of the first new shifts has the old shift at a place
abbrev pub IsFree : ℕ → (ℕ → Option ℕ) → ℕ → Type 0
IsFree count chosen place = (at : ℕ) → at < count → chosen at ≢ Some place

-- there is such an old shift, and it is of the new one's group
pub record IsPair (old new : List Shift) (at place : ℕ) : Type 0 where
  pub there : place < length old
  pub group : (shift_at old place).group ≡ (shift_at new at).group

-- old and new shifts are matched one to one within their groups, and the smaller side of each group wholly
pub record IsMatching (old new : List Shift) (matching : List (Option ℕ)) : Type 0 where
  pub len : length matching ≡ length new
  pub pairs : (at place : ℕ) → at < length new → choice matching at ≡ Some place → IsPair old new at place
  pub once : (at later place : ℕ) → at < later → later < length new → choice matching at ≡ Some place
      → choice matching later ≢ Some place
  -- no group has both an old and a new shift left over
  pub whole : (at place : ℕ) → at < length new → choice matching at ≡ None → IsPair old new at place
      → IsFree (length new) (choice matching) place → ⊥

-- where a choice stands in the order: by its place, and none behind all
unfoldable pub rank : Option ℕ → ℕ
rank None = 64
rank (Some place) = place

-- the choices are the first in the order of words: where both first part, the choice does not stand behind
abbrev pub ComesFirst : ℕ → (ℕ → Option ℕ) → (ℕ → Option ℕ) → Type 0
ComesFirst count chosen others =
    (at : ℕ) → at < count → ((before : ℕ) → before < at → chosen before ≡ others before)
    → rank (chosen at) ≤ rank (others at)
