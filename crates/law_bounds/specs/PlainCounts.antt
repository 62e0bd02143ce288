-- Counts of arcs on a day without floors, ceilings and groups, and what they cost.
use Rattle.std.specs.Prelude.{ℕ, ◌≡◌, ◌≤◌, ◌+◌, ◌⊎◌, List}
use Rattle.model_rosters.specs.declared.grammar.ArcKey.{ArcKey}
use Rattle.model_rosters.specs.declared.instance.Cut.{Cut}
use Rattle.model_rosters.specs.declared.instance.Instance.{Instance}
use Rattle.model_rosters.specs.Cuts.{lo}
use Rattle.model_rosters.specs.GreatestCost.{greatest_cost}
use Rattle.model_rosters.specs.arc_laws.Balance.{IsBalanced}
use Rattle.model_rosters.specs.arc_laws.Counts.{root_count, counts_cost}
use Rattle.model_rosters.specs.arc_laws.Lists.{AreArcs}

-- balanced, with the root's count in the range of the heads
pub record ArePlainCounts (i : Instance) (listed : List ArcKey) (value : ArcKey → ℕ) : Type 0 where
  pub balanced : IsBalanced i.grammar listed value
  pub enough : i.heads_min ≤ root_count i.grammar listed value
  pub few : root_count i.grammar listed value ≤ i.heads_max

-- the cost of the counts that the cuts leave, or one more than the greatest cost where they are those
-- of no roster
pub record IsPlainPinnedValue (i : Instance) (cuts : List Cut) (v : ℕ) : Type 0 where
  pub listed : List ArcKey
  pub are : AreArcs i.grammar listed
  pub value : (ArePlainCounts i listed (lo cuts) × (v ≡ counts_cost i listed (lo cuts)))
      ⊎ ((ArePlainCounts i listed (lo cuts) → ⊥) × (v ≡ greatest_cost i + 1))
