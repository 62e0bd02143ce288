use Rattle.std.proofs.Common.{arith, ℕ, ◌≡◌, ◌+◌, ◌-◌, subst, get_or, drop, refl}
use Rattle.model_rosters.specs.declared.grammar.Sym.TheVariants.{Code}
use Rattle.tree_span_cells.specs.Cells.{place}
use Rattle.tree_span_arcs.specs.Marks.{free_view, SplitsMarked}
use Rattle.tree_span_cells.proofs.CellsLemmas.{filled-shorter}
use Rattle.tree_span_arcs.proofs.MarksLemmas.{adds-none, adds-more, splits-next}
use Rattle.tree_span_arcs.proofs.PartMarksLemmas.{splits-begin, splits-skip, splits-end}
use Rattle.tree_span_arcs.proofs.SplitsLemmas.{split-noted}
use Rattle.tree_span_arcs.proofs.marks.mark_parts.Goals as goal

pub loop-point-init : goal.loop-point-init
loop-point-init c =
    let g = c.args.grammar.now in
    let lay = c.args.layout.now in
    let i = c.args.span.start in
    let l = c.args.span.len in
    let k = c.args.suffix.from in
    let xs = c.args.rule.now.right in
    let shorter = filled-shorter g free_view lay c.requires.ready.layout c.args.cells.now c.requires.filled l in
    let told = split-noted g c.split_points-points.result c.args.suffix.rule k xs i l (Code 0) c.requires.within (λ m one less. c.split_points-points.ensures free_view m shorter one less) in
    let one : 1 ≡ i + 1 - i = omega arith in
    let begin = subst (λ (n : ℕ). SplitsMarked g lay c.args.marks.now c.args.suffix.rule k (get_or xs k (Code 0)) (drop (k + 1) xs) i l n) one
    (splits-begin xs k (Code 0) (get_or xs k (Code 0)) c.requires.within refl g lay c.args.marks.now c.args.suffix.rule i l) in
    record {
      low = c.first_in-point.ensures.low;
      high = c.first_in-point.ensures.high;
      adds = adds-none g lay (place lay 0 i l) c.args.marks.now;
      marked = splits-skip xs k (Code 0) (get_or xs k (Code 0)) c.requires.within refl g lay c.args.marks.now c.args.suffix.rule i l c.split_points-points.result
          (i + 1) c.first_in-point.result told (omega arith) c.first_in-point.ensures.low (omega (arith, c.first_in-point.ensures.high, c.end-end.ensures))
          (λ n le lt has. c.first_in-point.ensures.first n le (omega (arith, lt, c.end-end.ensures)) has) begin;
    }

pub loop-point-preserved : goal.loop-point-preserved
loop-point-preserved c =
    let g = c.args.grammar.now in
    let lay = c.args.layout.now in
    let i = c.args.span.start in
    let l = c.args.span.len in
    let k = c.args.suffix.from in
    let xs = c.args.rule.now.right in
    let point = c.loop-point.point in
    let next = c.first_in-point-in-loop-point in
    let n = place lay 0 i l in
    let shorter = filled-shorter g free_view lay c.requires.ready.layout c.args.cells.now c.requires.filled l in
    let told = split-noted g c.split_points-points.result c.args.suffix.rule k xs i l (Code 0) c.requires.within (λ m one less. c.split_points-points.ensures free_view m shorter one less) in
    let one : point - i + 1 ≡ point + 1 - i = omega (arith, c.loop-point.invariant.low) in
    let more = subst (λ (n : ℕ). SplitsMarked g lay c.mark_split.new.marks c.args.suffix.rule k (get_or xs k (Code 0)) (drop (k + 1) xs) i l n) one
    (splits-next g lay n _ _ c.mark_split.ensures.adds c.args.suffix.rule k _ _ i l (point - i) c.loop-point.invariant.marked c.mark_split.ensures.marked) in
    record {
      low = omega (arith, next.ensures.low, c.loop-point.invariant.low);
      high = next.ensures.high;
      adds = adds-more g lay n _ _ _ c.loop-point.invariant.adds c.mark_split.ensures.adds;
      marked = splits-skip xs k (Code 0) (get_or xs k (Code 0)) c.requires.within refl g lay c.mark_split.new.marks c.args.suffix.rule i l c.split_points-points.result
          (point + 1) next.result told (omega (arith, c.loop-point.invariant.low)) next.ensures.low (omega (arith, next.ensures.high, c.end-end.ensures))
          (λ n le lt has. next.ensures.first n le (omega (arith, lt, c.end-end.ensures)) has) more;
    }

pub returns-clause-closed : goal.returns-clause-closed
returns-clause-closed c =
    let same : c.loop-point.point - c.args.span.start ≡ c.args.span.len = omega (arith, c.loop-point.invariant.high, c.loop-point-test.false, c.end-end.ensures) in
    splits-end c.args.rule.now.right c.args.suffix.from (Code 0) (get_or c.args.rule.now.right c.args.suffix.from (Code 0)) c.requires.within refl c.args.grammar.now c.args.layout.now _ c.args.suffix.rule c.args.span.start c.args.span.len
    (rw same at c.loop-point.invariant.marked)
