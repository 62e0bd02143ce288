-- Counts of which some trees are taken, while nodes are still to be given what stands there.
use Rattle.std.specs.Prelude.{ℕ, ◌≡◌, ◌+◌, List}
use Rattle.model_rosters.specs.declared.grammar.ArcKey.{ArcKey}
use Rattle.model_rosters.specs.declared.grammar.Grammar.{Grammar}
use Rattle.model_rosters.specs.Trees.{Parts}
use Rattle.model_rosters.specs.Folds.{count}
use Rattle.model_rosters.specs.Arcs.{same_arc}
use Rattle.model_rosters.specs.arc_laws.OrNodes.{OrNode, same_node}
use Rattle.model_rosters.specs.arc_laws.Balance.{made_sum, used_sum}
use Rattle.model_rosters.specs.arc_laws.AtNodes.{IsAt}
use Rattle.search_arc_counts.specs.roster_split.Nodes.{arcs_at, IsInner}

-- each name or suffix on a span is made as often as it is used and pending together
pub record Owes (g : Grammar) (listed : List ArcKey) (value : ArcKey → ℕ)
    (pending : List OrNode) : Type 0 where
  pub each : (o : OrNode) → IsInner o
      → made_sum g listed value o ≡ used_sum g listed value o + count (same_node o) pending

-- what stands at the node was taken from the counts; the nodes that are pending are still owed
pub record Taken (g : Grammar) (listed : List ArcKey) (value : ArcKey → ℕ) (o : OrNode)
    (pending : List OrNode) : Type 0 where
  pub tree : Parts
  pub at : IsAt g o tree
  pub left : ArcKey → ℕ
  pub counts : (a : ArcKey) → value a ≡ left a + count (same_arc a) (arcs_at o tree)
  pub owes : Owes g listed left pending
