use Rattle.std.proofs.Common.{arith, ℕ, ◌≡◌, ◌+◌, ◌-◌, ◌*◌, length, subst}
use Rattle.std.proofs.lemmas.Int.{ints}
use mir.Val.{to_z, of_z}
use mir.Syntax.{w128}
use Rattle.tree_span_cells.specs.Places.{place_of}
use Rattle.tree_span_cells.proofs.CellsLemmas.{filled-shorter}
use Rattle.tree_span_table.specs.next_codes.Pushes.{PartsDone}
use Rattle.tree_span_table.proofs.next_codes.LoweredTotals.{lowered-none, lowered-twice}
use Rattle.tree_span_table.proofs.next_codes.PartPushes.{parts-begin, parts-more, parts-skip}
use Rattle.tree_span_table.proofs.next_codes.PushesLemmas.{parts-lower}
use Rattle.tree_span_table.proofs.next_codes.parts.push_parts.Goals as goal

pub loop-point-init : goal.loop-point-init
loop-point-init g c =
    let gr = c.args.grammar.now in
    let p = g.P.LetterPrice.view c.args.prices.now in
    let i = c.args.span.start in
    let shorter = filled-shorter gr p c.args.layout.now c.requires.pushing.ready.layout c.args.inside.now c.requires.pushing.filled c.args.span.len in
    let one : 1 ≡ i + 1 - i = omega arith in
    let same : to_z w128 (of_z w128 c.args.outside) ≡ c.args.outside = omega (arith, ints) in
    record {
      low = c.first_in-point.ensures.low;
      high = c.first_in-point.ensures.high;
      done = rw same (parts-skip gr p c.args.layout.now c.args.totals.now c.args.suffix.rule c.args.suffix.from i c.args.span.len c.args.rule.now.right c.args.outside c.split_points-points.result
          (i + 1) c.first_in-point.result (λ m one less. c.split_points-points.ensures p m shorter one less) (omega arith) (omega (arith, c.first_in-point.ensures.high, c.end-end.ensures))
          (λ n le lt has. c.first_in-point.ensures.first n le (omega (arith, lt, c.end-end.ensures)) has)
          (subst (λ (n : ℕ). PartsDone gr p c.args.layout.now c.args.totals.now c.args.suffix.rule c.args.suffix.from c.args.rule.now.right i c.args.span.len c.args.outside n) one
          (parts-begin gr p c.args.layout.now c.args.totals.now c.args.suffix.rule c.args.suffix.from i c.args.span.len c.args.rule.now.right c.args.outside)));
      lowered = lowered-none (place_of c.args.layout.now.spans c.args.span.start c.args.span.len * length c.args.layout.now.slots.items) c.args.totals.now;
      through = c.requires.pushing.through;
    }

pub push_part-requires-clause-around : goal.push_part-requires-clause-around
push_part-requires-clause-around g c =
    let same : to_z w128 (of_z w128 c.args.outside) ≡ c.args.outside = omega (arith, ints) in
    rw same c.requires.around

pub loop-point-preserved : goal.loop-point-preserved
loop-point-preserved g c =
    let gr = c.args.grammar.now in
    let p = g.P.LetterPrice.view c.args.prices.now in
    let i = c.args.span.start in
    let point = c.loop-point.point in
    let next = c.first_in-point-in-loop-point in
    let row = place_of c.args.layout.now.spans c.args.span.start c.args.span.len * length c.args.layout.now.slots.items in
    let same : to_z w128 (of_z w128 c.args.outside) ≡ c.args.outside = omega (arith, ints) in
    let shorter = filled-shorter gr p c.args.layout.now c.requires.pushing.ready.layout c.args.inside.now c.requires.pushing.filled c.args.span.len in
    let k : point - i + 1 ≡ point + 1 - i = omega (arith, c.loop-point.invariant.low) in
    let old = parts-lower gr p c.args.layout.now row c.loop-point.totals c.push_part.new.totals c.push_part.ensures.lowered c.args.suffix.rule c.args.suffix.from i c.args.span.len c.args.rule.now.right c.args.outside (point - i) (rw same at c.loop-point.invariant.done) in
    let more = parts-more gr p c.args.layout.now c.push_part.new.totals c.args.suffix.rule c.args.suffix.from i c.args.span.len c.args.rule.now.right c.args.outside (point - i) old (rw same at c.push_part.ensures.done) in
    record {
      low = omega (arith, next.ensures.low, c.loop-point.invariant.low);
      high = next.ensures.high;
      done = rw same (parts-skip gr p c.args.layout.now c.push_part.new.totals c.args.suffix.rule c.args.suffix.from i c.args.span.len c.args.rule.now.right c.args.outside c.split_points-points.result
          (point + 1) next.result (λ m one less. c.split_points-points.ensures p m shorter one less) (omega (arith, c.loop-point.invariant.low)) (omega (arith, next.ensures.high, c.end-end.ensures))
          (λ n le lt has. next.ensures.first n le (omega (arith, lt, c.end-end.ensures)) has)
          (subst (λ (n : ℕ). PartsDone gr p c.args.layout.now c.push_part.new.totals c.args.suffix.rule c.args.suffix.from c.args.rule.now.right i c.args.span.len c.args.outside n) k more));
      lowered = lowered-twice row row c.args.totals.now c.loop-point.totals c.push_part.new.totals (omega arith) c.loop-point.invariant.lowered c.push_part.ensures.lowered;
      through = c.push_part.ensures.through;
    }

pub returns-clause-done : goal.returns-clause-done
returns-clause-done g c =
    let same : to_z w128 (of_z w128 c.args.outside) ≡ c.args.outside = omega (arith, ints) in
    let whole : c.loop-point.point - c.args.span.start ≡ c.args.span.len = omega (arith, c.loop-point.invariant.high, c.loop-point-test.false, c.end-end.ensures) in
    subst (λ (n : ℕ). PartsDone c.args.grammar.now (g.P.LetterPrice.view c.args.prices.now) c.args.layout.now c.loop-point.totals c.args.suffix.rule c.args.suffix.from c.args.rule.now.right c.args.span.start c.args.span.len c.args.outside n) whole
    (rw same at c.loop-point.invariant.done)
