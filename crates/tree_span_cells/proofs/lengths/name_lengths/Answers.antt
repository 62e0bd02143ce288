use Rattle.std.proofs.Common.{arith}
use Rattle.tree_span_cells.proofs.LengthsLemmas.{hold-name, rules-next}
use Rattle.tree_span_cells.proofs.lengths.name_lengths.Goals as goal

pub loop-index-preserved : goal.loop-index-preserved
loop-index-preserved c =
    λ names. rules-next c.args.grammar.now c.args.name c.loop-index.index c.rule_of-rule.result.now c.loop-index.lengths c.rule_lengths.result c.or-lengths.result
    c.rule_of-rule.ensures (c.loop-index.invariant names) (c.rule_lengths.ensures c.args.grammar.now names) c.or-lengths.ensures.left c.or-lengths.ensures.right

pub returns : goal.returns
returns c =
    λ names. hold-name c.args.grammar.now c.args.name c.loop-index.lengths
    (λ r rule le. c.loop-index.invariant names r rule (omega (arith, le, c.loop-index-test.false)))
