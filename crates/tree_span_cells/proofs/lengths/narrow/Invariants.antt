use Rattle.std.proofs.Common.{◌≡◌, ◌≤◌, length}
use Rattle.tree_span_cells.specs.Lengths.{HoldNames}
use Rattle.tree_span_cells.proofs.lengths.narrow.Given as goal

abbrev pub invariant-loop-name : goal.invariant-loop-name
invariant-loop-name l = record {
  count : length l.names ≡ length l.grammar.names;
  high : l.name ≤ length l.names;
  hold : HoldNames l.grammar l.names;
}
