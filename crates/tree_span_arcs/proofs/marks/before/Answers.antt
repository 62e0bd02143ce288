use Rattle.std.proofs.Common.{arith, ◌≡◌}
use Rattle.tree_span_arcs.proofs.MarksLemmas.{row-before}
use Rattle.tree_span_arcs.proofs.marks.before.Goals as goal

pub returns-else-span-gt1-clause-place : goal.returns-else-span-gt1-clause-place
returns-else-span-gt1-clause-place c some =
    let first : c.args.span.start ≡ 1 = omega arith in
    row-before c.args.periods c.args.span.start c.args.span.len first (omega arith) some
