use Rattle.std.proofs.Common.{arith}
use Rattle.model_rosters.proofs.tree_laws.Rules.{rule_at-within}
use Rattle.tree_span_cells.specs.Cells.{place, name_slot}
use Rattle.tree_span_cells.proofs.ChainsLemmas.{first-read, next-read}
use Rattle.tree_span_arcs.proofs.MarksLemmas.{adds-none, adds-more, rules-next, rules-closed}
use Rattle.tree_span_arcs.proofs.marks.mark_rules.Goals as goal

pub loop-number-init : goal.loop-number-init
loop-number-init c =
    let g = c.args.grammar.now in
    let lay = c.args.layout.now in
    let first = first-read g lay c.requires.ready.layout.chains c.args.name c.index-number.result.now c.requires.name c.index-number.ensures in
    record {
      low = first.low;
      high = first.high;
      there = first.there;
      adds = adds-none g lay (place lay (name_slot lay c.args.name) c.args.span.start c.args.span.len) c.args.marks.now;
      closed = λ r less rule at left stands. let w = rule_at-within g r rule at in absurd (first.others r rule w.0 less at left);
    }

pub loop-number-smaller : goal.loop-number-smaller
loop-number-smaller c =
    let next = next-read c.args.grammar.now c.args.layout.now c.requires.ready.layout.chains c.args.name c.loop-number.number c.index-number-in-loop-number.result.now
    c.loop-number.invariant.low (omega arith) c.loop-number.invariant.there c.index-number-in-loop-number.ensures in
    omega (arith, next.low, next.high)

pub loop-number-preserved : goal.loop-number-preserved
loop-number-preserved c =
    let g = c.args.grammar.now in
    let lay = c.args.layout.now in
    let n = place lay (name_slot lay c.args.name) c.args.span.start c.args.span.len in
    let next = next-read g lay c.requires.ready.layout.chains c.args.name c.loop-number.number c.index-number-in-loop-number.result.now
    c.loop-number.invariant.low (omega arith) c.loop-number.invariant.there c.index-number-in-loop-number.ensures in
    record {
      low = omega (arith, next.low);
      high = next.high;
      there = next.there;
      adds = adds-more g lay n _ _ _ c.loop-number.invariant.adds c.mark_rule.ensures.adds;
      closed = rules-next g lay n _ _ c.mark_rule.ensures.adds c.args.name c.args.span.start c.args.span.len c.loop-number.number c.index-number-in-loop-number.result.now next
          c.loop-number.invariant.closed c.mark_rule.ensures.closed;
    }

pub returns-clause-closed : goal.returns-clause-closed
returns-clause-closed c =
    rules-closed c.args.grammar.now c.args.layout.now _ c.args.name c.args.span.start c.args.span.len
    (λ r le. c.loop-number.invariant.closed r (omega (arith, le, c.loop-number-test.false)))
