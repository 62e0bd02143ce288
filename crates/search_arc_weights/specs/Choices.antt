-- What sums by arcs, in units of 1 / d, tell. A sum counts as whole within a margin of a multiple of d.
use Rattle.std.specs.Prelude.{ℕ, ◌≡◌, ◌<◌, ◌≤◌, ◌+◌, ◌-◌, ◌/◌, ◌%◌, ◌⊎◌, ◌&&◌, Bool, true, false, cond, nat_lt}
use Rattle.std.specs.Prelude.{List, length, map, slice_index}
use Rattle.search_arc_counts.specs.declared.count_boxes.bounds.Bounds.{Bounds}
use Rattle.search_arc_counts.specs.count_boxes.Boxes.{bounds_at}
use Rattle.search_masters.specs.declared.ends.Solution.{Solution}
use Rattle.search_masters.specs.declared.ends.Solution.TheVariants.{Exact, Near}
use Rattle.search_arc_weights.specs.declared.choice.Candidate.{Candidate}
use Rattle.search_arc_weights.specs.declared.weighed.Weighed.{Weighed}
use Rattle.search_arc_weights.specs.declared.weighed.Weighed.TheVariants.{Whole, Between, Other}

-- the margin of sums of exact weights, and of near ones
abbrev pub margin_of : Solution → ℕ → ℕ
margin_of Exact d = 0
margin_of Near d = d / 4096

-- the sum is farther than the margin from each multiple of d
abbrev pub is_fraction : ℕ → ℕ → ℕ → Bool
is_fraction d margin sum = nat_lt margin (sum % d) && nat_lt margin (d - sum % d)

-- the whole number that is nearest to a sum which counts as whole
abbrev pub nearest : ℕ → ℕ → ℕ → ℕ
nearest d margin sum = cond (nat_lt margin (sum % d)) (sum / d + 1) (sum / d)

-- each sum counts as whole
abbrev pub CountAsWhole : ℕ → ℕ → List ℕ → Type 0
CountAsWhole d margin sums = (p : ℕ) → p < length sums → is_fraction d margin (slice_index sums p) ≡ false

-- the sum at this place is a fraction
abbrev pub IsPart : ℕ → ℕ → List ℕ → ℕ → Type 0
IsPart d margin sums p = (p < length sums) × (is_fraction d margin (slice_index sums p) ≡ true)

-- no sum is above 64
abbrev pub HaveFew : ℕ → List ℕ → Type 0
HaveFew d sums = (p : ℕ) → p < length sums → slice_index sums p / d ≤ 64

-- there is a count for each sum, and no sum is above 64
pub record FitCounts (bounds : List Bounds) (d : ℕ) (sums : List ℕ) : Type 0 where
  pub some : 1 ≤ d
  pub each : length bounds ≡ length sums
  pub few : HaveFew d sums

abbrev pub AreRounded : ℕ → ℕ → List ℕ → List ℕ → Type 0
AreRounded d margin sums counts = counts ≡ map (λ (s : ℕ). nearest d margin s) sums

-- the sum counts as whole, or is below the least count
abbrev pub IsLeft : ℕ → ℕ → ℕ → ℕ → Type 0
IsLeft d margin low sum = (is_fraction d margin sum ≡ false) ⊎ (sum / d < low)

-- the sum is a fraction above b, which is at least the least count
pub record IsAbove (d margin low sum b : ℕ) : Type 0 where
  pub floor : b ≡ sum / d
  pub part : is_fraction d margin sum ≡ true
  pub low_is : low ≤ b

pub record IsFitted (arc d margin low sum : ℕ) (c : Candidate) : Type 0 where
  pub arc_is : c.arc ≡ arc
  pub above : IsAbove d margin low sum c.b

-- the arc's sum is a fraction above b, and the box leaves it b
pub record IsChoice (bounds : List Bounds) (d margin : ℕ) (sums : List ℕ) (choice : ℕ × ℕ) : Type 0 where
  pub at : choice.0 < length sums
  pub above : IsAbove d margin (bounds_at bounds choice.0).low (slice_index sums choice.0) choice.1

-- no arc is one to choose
abbrev pub HasNoChoice : List Bounds → ℕ → ℕ → List ℕ → Type 0
HasNoChoice bounds d margin sums = (p : ℕ) → p < length sums
    → IsLeft d margin (bounds_at bounds p).low (slice_index sums p)

-- some arc's sum is a fraction below its least count
pub record IsMissed (bounds : List Bounds) (d margin : ℕ) (sums : List ℕ) : Type 0 where
  pub place : ℕ
  pub at : place < length sums
  pub part : is_fraction d margin (slice_index sums place) ≡ true
  pub below : slice_index sums place / d < (bounds_at bounds place).low

-- what the sums tell
abbrev pub IsAnswer : List Bounds → ℕ → ℕ → List ℕ → Weighed → Type 0
IsAnswer bounds d margin sums (Whole counts) = CountAsWhole d margin sums × AreRounded d margin sums counts
IsAnswer bounds d margin sums (Between arc b) = IsChoice bounds d margin sums (arc, b)
IsAnswer bounds d margin sums Other = IsMissed bounds d margin sums
