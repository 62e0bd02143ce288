use Rattle.std.proofs.Common.{◌≤◌, drop, length}
use Rattle.model_rosters.specs.declared.grammar.Grammar.{Grammar as Rules}
use Rattle.tree_span_cells.specs.Lengths.{Hold, HoldNames}
use Rattle.tree_span_cells.proofs.lengths.suffix_lengths.Given as goal

abbrev pub invariant-loop-place : goal.invariant-loop-place
invariant-loop-place l = record {
  low : l.from ≤ l.place;
  high : l.place ≤ length l.right;
  hold : (g : Rules) → HoldNames g l.names → Hold g (drop l.place l.right) l.lengths;
}
