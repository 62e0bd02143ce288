use Rattle.std.proofs.Common.{◌≡◌, ◌<◌, ℕ, Some, length}
use Rattle.std.specs.Prelude.{slice_get}
use Rattle.model_rosters.specs.declared.grammar.ArcKey.{ArcKey}
use Rattle.model_rosters.specs.Sums.{Within}
use Rattle.tree_cheapest.specs.Extras.{number_at}
use Rattle.tree_cheapest.proofs.extras.Extras.ask_all.Given as goal

abbrev pub invariant-loop-place : goal.invariant-loop-place
invariant-loop-place g l = record {
  each : (k : ℕ) (a : ArcKey) → k < l.place → slice_get l.graph.arcs k ≡ Some a → number_at l.self.prices.items k ≡ (g.P.LetterPrice.view l.prices).arc_of a;
  small : (k : ℕ) → k < l.place → Within g.N.Number.limits.price (number_at l.self.prices.items k);
  count : length l.self.prices.items ≡ length l.graph.arcs;
}
