-- Paths that leave each arc one count, and what such counts cost.
use Rattle.std.specs.Prelude.{ℕ, ◌≡◌, ◌≤◌, ◌+◌, ◌⊎◌, List}
use Rattle.model_rosters.specs.declared.grammar.ArcKey.{ArcKey}
use Rattle.model_rosters.specs.declared.instance.Cut.{Cut}
use Rattle.model_rosters.specs.declared.instance.Instance.{Instance}
use Rattle.model_rosters.specs.Arcs.{IsArc}
use Rattle.model_rosters.specs.Cuts.{lo, hi}
use Rattle.model_rosters.specs.GreatestCost.{greatest_cost}
use Rattle.model_rosters.specs.arc_laws.Lists.{AreArcs}
use Rattle.model_rosters.specs.arc_laws.Counts.{AreCounts, counts_cost}

-- the cuts leave no arc of the instance more than one count
pub record IsPinned (i : Instance) (cuts : List Cut) : Type 0 where
  pub tight : (a : ArcKey) → IsArc i.grammar a → hi i.heads_max cuts a ≤ lo cuts a

-- the cost of these counts, or one more than the greatest cost where they are those of no roster
pub record IsPinnedValue (i : Instance) (cuts : List Cut) (v : ℕ) : Type 0 where
  pub listed : List ArcKey
  pub are : AreArcs i.grammar listed
  pub value : (AreCounts i listed (lo cuts) × (v ≡ counts_cost i listed (lo cuts)))
      ⊎ ((AreCounts i listed (lo cuts) → ⊥) × (v ≡ greatest_cost i + 1))
