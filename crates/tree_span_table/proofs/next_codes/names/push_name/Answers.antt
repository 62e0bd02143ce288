use Rattle.std.proofs.Common.{arith, ◌≡◌, ◌+◌, length}
use Rattle.std.proofs.lemmas.Int.{ints}
use mir.Val.{to_z, of_z}
use mir.Syntax.{w128}
use Rattle.tree_span_cells.specs.Cells.{name_slot, place}
use Rattle.tree_span_cells.proofs.ChainsLemmas.{first-read, next-read}
use Rattle.tree_span_table.proofs.next_codes.LoweredTotals.{lowered-none, lowered-twice}
use Rattle.tree_span_table.proofs.next_codes.PushesLemmas.{name-lower, name-begin, name-skip, name-more}
use Rattle.tree_span_table.proofs.next_codes.names.push_name.Goals as goal

pub loop-number-init : goal.loop-number-init
loop-number-init g c =
    let p = g.P.LetterPrice.view c.args.prices.now in
    let same : to_z w128 (of_z w128 c.args.outside) ≡ c.args.outside = omega (arith, ints) in
    let first = first-read c.args.grammar.now c.args.layout.now c.requires.pushing.ready.layout.chains c.args.name c.index-number.result.now c.requires.name c.index-number.ensures in
    record {
      low = first.low;
      high = first.high;
      there = first.there;
      done = rw same (name-skip c.args.grammar.now p c.args.layout.now c.args.totals.now c.args.name c.args.span.start c.args.span.len c.args.outside 1 c.index-number.result.now first
          (name-begin c.args.grammar.now p c.args.layout.now c.args.totals.now c.args.name c.args.span.start c.args.span.len c.args.outside));
      lowered = lowered-none (place c.args.layout.now (name_slot c.args.layout.now c.args.name) c.args.span.start c.args.span.len) c.args.totals.now;
      through = c.requires.pushing.through;
    }

pub push_rule-requires-clause-around : goal.push_rule-requires-clause-around
push_rule-requires-clause-around g c =
    let same : to_z w128 (of_z w128 c.args.outside) ≡ c.args.outside = omega (arith, ints) in
    rw same c.requires.around

pub loop-number-smaller : goal.loop-number-smaller
loop-number-smaller g c =
    let next = next-read c.args.grammar.now c.args.layout.now c.requires.pushing.ready.layout.chains c.args.name c.loop-number.number c.index-number-in-loop-number.result.now
    c.loop-number.invariant.low (omega arith) c.loop-number.invariant.there c.index-number-in-loop-number.ensures in
    omega (arith, next.low, next.high)

pub loop-number-preserved : goal.loop-number-preserved
loop-number-preserved g c =
    let p = g.P.LetterPrice.view c.args.prices.now in
    let same : to_z w128 (of_z w128 c.args.outside) ≡ c.args.outside = omega (arith, ints) in
    let number = c.loop-number.number in
    let at = place c.args.layout.now (name_slot c.args.layout.now c.args.name) c.args.span.start c.args.span.len in
    let next = next-read c.args.grammar.now c.args.layout.now c.requires.pushing.ready.layout.chains c.args.name number c.index-number-in-loop-number.result.now
    c.loop-number.invariant.low (omega arith) c.loop-number.invariant.there c.index-number-in-loop-number.ensures in
    let old = name-lower c.args.grammar.now p c.args.layout.now at c.loop-number.totals c.push_rule.new.totals c.push_rule.ensures.lowered c.args.name c.args.span.start c.args.span.len c.args.outside number (rw same at c.loop-number.invariant.done) in
    record {
      low = omega (arith, next.low);
      high = next.high;
      there = next.there;
      done = rw same (name-skip c.args.grammar.now p c.args.layout.now c.push_rule.new.totals c.args.name c.args.span.start c.args.span.len c.args.outside (number + 1) c.index-number-in-loop-number.result.now next
          (name-more c.args.grammar.now p c.args.layout.now c.push_rule.new.totals c.args.name c.args.span.start c.args.span.len c.args.outside number old (rw same at c.push_rule.ensures.done)));
      lowered = lowered-twice at at c.args.totals.now c.loop-number.totals c.push_rule.new.totals (omega arith) c.loop-number.invariant.lowered c.push_rule.ensures.lowered;
      through = c.push_rule.ensures.through;
    }

pub returns-clause-done : goal.returns-clause-done
returns-clause-done g c =
    let same : to_z w128 (of_z w128 c.args.outside) ≡ c.args.outside = omega (arith, ints) in
    let all : c.loop-number.number ≡ length c.args.grammar.now.rules + 1 = omega (arith, c.loop-number.invariant.high, c.loop-number-test.false) in
    rw (same, all) at c.loop-number.invariant.done
