use Rattle.std.proofs.Common.{◌≡◌, ◌<◌, ◌+◌, ℕ, None, Some, IfSome, pos, length}
use Rattle.std.specs.Prelude.{slice_get}
use Rattle.model_rosters.specs.Sums.{Within}
use Rattle.tree_cheapest.specs.declared.slots.Spot.{Spot}
use Rattle.tree_cheapest.specs.Pricers.{value_at}
use Rattle.tree_cheapest.proofs.row_fill.begin.Given as goal

abbrev pub invariant-loop-node : goal.invariant-loop-node
invariant-loop-node g l = record {
  count : length l.sums ≡ length l.initial.sums;
  none : (n : ℕ) → n < l.node → value_at l.sums n ≡ None;
}

abbrev pub invariant-loop-index : goal.invariant-loop-index
invariant-loop-index g l = record {
  count : length l.sums ≡ length l.initial.sums;
  none : (n : ℕ) → n < l.nodes → value_at l.sums n ≡ None;
  nothing : value_at l.sums l.nodes ≡ Some (pos 0);
  spots : (j : ℕ) (s : Spot) → j < l.index → slice_get l.letters j ≡ Some s → value_at l.sums (l.nodes + 1 + j) ≡ (g.P.LetterPrice.view l.prices).letter_at s.code s.period;
  small : (j : ℕ) → j < l.index → IfSome (value_at l.sums (l.nodes + 1 + j)) (Within g.N.Number.limits.sum);
}
