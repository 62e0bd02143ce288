use Rattle.std.proofs.Common.{◌≡◌, ◌≤ℤ◌, ℕ, List, Some, pos}
use Rattle.std.specs.Prelude.{slice_get}
use Rattle.model_rosters.specs.declared.grammar.Grammar.{Grammar}
use Rattle.model_rosters.specs.Sound.{IsSound}
use Rattle.model_rosters.specs.Sums.{PriceView}
use Rattle.model_rosters.specs.arc_laws.OrNodes.{OrNode}
use Rattle.tree_graph.specs.Graphs.{GraphView, IsGraph}
use Rattle.tree_cheapest.specs.Numbers.{sum_but}
use Rattle.tree_cheapest.specs.Passes.{AsksPass, IsLeastAmong}
use Rattle.tree_cheapest.specs.declared.order.Row.{Row}
use Rattle.tree_cheapest.specs.declared.slots.Spot.{Spot}
use Rattle.tree_cheapest.proofs.row_fill.least_of_row.Given as goal

abbrev pub invariant-loop-index : goal.invariant-loop-index
invariant-loop-index g l = record {
  most : g.N.Number.value l.least.number ≤ℤ pos g.N.Number.limits.least;
  least : (p : PriceView) (v : GraphView) (letters : List Spot) (best : List ℕ) → AsksPass g.N.Number.limits p v letters l.order l.sums best l.place l.rules l.extras
      → (g2 : Grammar) → IsSound g2 → IsGraph g2 v → (r : Row) → slice_get l.order.rows l.place ≡ Some r → (o : OrNode) → slice_get v.nodes r.node ≡ Some o
      → IsLeastAmong g2 p v l.order.makers r.begin l.index o (sum_but g.N.Number.limits.least (g.N.Number.value l.least.number)) l.least.arc;
}
