use Rattle.std.proofs.Common.{◌≡◌, length}
use Rattle.tree_span_cells.specs.Lengths.{HoldNames}
use Rattle.tree_span_cells.proofs.lengths.all_names.Given as goal

abbrev pub invariant-loop : goal.invariant-loop
invariant-loop l = record {
  count : length l.names.items ≡ length l.grammar.names;
  hold : HoldNames l.grammar l.names.items;
}
