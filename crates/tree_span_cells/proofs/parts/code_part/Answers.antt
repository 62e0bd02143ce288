use Rattle.std.proofs.Common.{arith, ℕ, ◌≡◌, ◌≢◌, ◌≤◌, ◌<◌, ◌+◌, ◌-◌, None, inl, refl, sym, subst, get_or}
use Rattle.model_rosters.specs.declared.grammar.Sym.TheVariants.{Code}
use Rattle.tree_span_cells.proofs.ChoicesLemmas.{part-next}
use Rattle.tree_span_cells.proofs.PartsLemmas.{Least, parts-begin, parts-end, parts-only}
use Rattle.tree_span_cells.proofs.PointsLemmas.{code-alone, rest-value, no-split}
use Rattle.tree_span_cells.proofs.parts.code_part.Goals as goal

pub returns-then-span-eq1-clause-least : goal.returns-then-span-eq1-clause-least
returns-then-span-eq1-clause-least g c =
    let gr = c.args.grammar.now in
    let p = g.P.LetterPrice.view c.args.prices.now in
    let one : 1 ≡ c.args.span.len = sym c.if-span-eq1.true in
    rw c.none-none.ensures
    (parts-end gr p c.args.suffix.rule c.args.suffix.from c.args.span.start c.args.span.len c.args.rule.now.right (Code 0) c.requires.within None
    (subst (λ (n : ℕ). Least gr p c.args.suffix.rule c.args.suffix.from c.args.span.start c.args.span.len c.args.rule.now.right (Code 0) c.requires.within n None) one
    (parts-begin gr p c.args.suffix.rule c.args.suffix.from c.args.span.start c.args.span.len c.args.rule.now.right (Code 0) c.requires.within)))

pub returns-clause-chosen : goal.returns-clause-chosen
returns-clause-chosen g c =
    part-next c.args.grammar.now (g.P.LetterPrice.view c.args.prices.now) c.args.suffix.rule c.args.suffix.from _ c.args.rule.now.right c.args.span.start c.args.span.len
    c.none-none.result c.or.result c.part_least-sum.result 1 (rw c.none-none.ensures tt) c.part_least-sum.ensures c.or.ensures.chosen

pub returns-clause-least : goal.returns-clause-least
returns-clause-least g c =
    let gr = c.args.grammar.now in
    let p = g.P.LetterPrice.view c.args.prices.now in
    let lay = c.args.layout.now in
    let held = g.C.Cells.held c.args.cells.now in
    let i = c.args.span.start in
    let l = c.args.span.len in
    let k = c.args.suffix.from in
    let right = c.args.rule.now.right in
    let others = λ (m : ℕ) (one : 1 ≤ m) (less : m < c.args.span.len) (other : m ≢ 1).
    let far = c.requires.shorter (i + m) (l - m) (record { begins = omega (arith, one); some = omega (arith, less); within = omega (arith, less) }) (omega (arith, one, less)) in
    let w = rest-value gr p (i + m) (l - m) lay c.requires.ready.layout held far c.args.suffix.rule (k + 1) c.args.rule.now c.requires.sound c.requires.rule (omega arith) (omega arith) in
    no-split gr p c.args.suffix.rule k (get_or right k (Code 0)) right i l m None w.0 one less (code-alone gr p (get_or right k (Code 0)) i m c.requires.code other) w.1 (inl refl) in
    parts-only gr p c.args.suffix.rule k i l right (Code 0) c.requires.within 1 c.part_least-sum.result c.or.result.sum others c.part_least-sum.ensures
    (rw c.none-none.ensures at c.or.ensures.lesser)
