use Rattle.std.proofs.Common.{arith, ◌≤◌, ◌+◌, length, refl, ◌∙◌}
use Rattle.model_rosters.specs.declared.grammar.Sym.TheVariants.{Code}
use Rattle.tree_span_arcs.specs.Marks.{free_view}
use Rattle.tree_span_cells.proofs.CellsLemmas.{filled-shorter}
use Rattle.tree_span_arcs.proofs.SplitsLemmas.{split-noted}
use Rattle.tree_span_arcs.proofs.ArcsLemmas.{last-split}
use Rattle.tree_span_arcs.proofs.arcs.longer_part.Goals as goal

pub returns-then-suffix-len : goal.returns-then-suffix-len
returns-then-suffix-len c = (
  c.requires.part,
  omega arith,
  λ m more h. let p = (last-split c.args.grammar.now c.args.rule.now.right c.args.suffix.from c.args.span.start c.args.span.len m (Code 0) _ (c.if-suffix-len.true ∙ c.len.ensures) refl).0 h in omega (arith, p.0),
)

pub returns-then-point-end : goal.returns-then-point-end
returns-then-point-end c =
    let two : c.args.suffix.from + 2 ≤ length c.args.rule.now.right = omega arith in
    let shorter = filled-shorter c.args.grammar.now free_view c.args.layout.now c.requires.ready.layout c.args.cells.now c.requires.filled c.args.span.len in
    let told = split-noted c.args.grammar.now c.split_points-points.result c.args.suffix.rule c.args.suffix.from c.args.rule.now.right c.args.span.start c.args.span.len (Code 0) two
    (λ m one less. c.split_points-points.ensures free_view m shorter one less) in (
      omega (arith, c.first_in-point.ensures.low),
      omega (arith, c.first_in-point.ensures.high, c.end-end.ensures),
      λ m more h. let t = told m h in
          let first = c.first_in-point.ensures.first (c.args.span.start + m) (omega (arith, more)) (omega (arith, t.2, c.end-end.ensures)) t.0 in
          omega (arith, first),
    )

pub returns-else-point-end : goal.returns-else-point-end
returns-else-point-end c =
    let two : c.args.suffix.from + 2 ≤ length c.args.rule.now.right = omega arith in
    let shorter = filled-shorter c.args.grammar.now free_view c.args.layout.now c.requires.ready.layout c.args.cells.now c.requires.filled c.args.span.len in
    let told = split-noted c.args.grammar.now c.split_points-points.result c.args.suffix.rule c.args.suffix.from c.args.rule.now.right c.args.span.start c.args.span.len (Code 0) two
    (λ m one less. c.split_points-points.ensures free_view m shorter one less) in
    λ m more h. let t = told m h in
    let first = c.first_in-point.ensures.first (c.args.span.start + m) (omega (arith, more)) (omega (arith, t.2, c.end-end.ensures)) t.0 in
    absurd (omega (arith, first, t.2, c.if-point-end.false, c.end-end.ensures))
