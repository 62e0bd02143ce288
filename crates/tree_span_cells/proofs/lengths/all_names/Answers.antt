use Rattle.std.proofs.Common.{arith}
use Rattle.tree_span_cells.proofs.LengthsLemmas.{hold-all}
use Rattle.tree_span_cells.proofs.lengths.all_names.Goals as goal

pub loop-init : goal.loop-init
loop-init c = record {
  count = omega (arith, c.in_ok-names.ensures.len);
  hold = hold-all c.args.grammar.now c.in_ok-names.names.items _ c.all.result (c.in_ok-names.ensures.items_if_clones_equal (λ y e. e)) c.all.ensures;
}
