use Rattle.std.proofs.Common.{arith, ◌≡◌, ◌≤◌, ◌+◌, ◌-◌, None, refl, sym, subst, ℕ}
use Rattle.model_rosters.specs.declared.grammar.Sym.TheVariants.{Code}
use Rattle.model_rosters.proofs.tree_laws.Bounds.{parts_within}
use Rattle.tree_span_cells.proofs.ChoicesLemmas.{part-next}
use Rattle.tree_span_cells.proofs.PartsLemmas.{Least, parts-begin, parts-next, parts-skip, parts-end}
use Rattle.tree_span_cells.proofs.parts.least_part.Goals as goal

pub loop-point-init : goal.loop-point-init
loop-point-init g c =
    let gr = c.args.grammar.now in
    let p = g.P.LetterPrice.view c.args.prices.now in
    let i = c.args.span.start in
    let one : i + 1 - i ≡ 1 = omega arith in
    let begin = subst (λ (n : ℕ). Least gr p c.args.suffix.rule c.args.suffix.from i c.args.span.len c.args.rule.now.right (Code 0) c.requires.within n None) (sym one)
    (parts-begin gr p c.args.suffix.rule c.args.suffix.from i c.args.span.len c.args.rule.now.right (Code 0) c.requires.within) in
    record {
      low = c.first_in-point.ensures.low;
      high = c.first_in-point.ensures.high;
      least = rw c.none-best.ensures
          (parts-skip gr p c.args.suffix.rule c.args.suffix.from i c.args.span.len c.args.rule.now.right (Code 0) c.requires.within c.split_points-points.result
          (i + 1) c.first_in-point.result None (λ m one less. c.split_points-points.ensures p m c.requires.shorter one less)
          (omega arith) c.first_in-point.ensures.low (omega (arith, c.first_in-point.ensures.high, c.end-end.ensures))
          (λ n le lt has. c.first_in-point.ensures.first n le (omega (arith, lt, c.end-end.ensures)) has) begin);
      chosen = rw c.none-best.ensures tt;
    }

pub loop-point-preserved : goal.loop-point-preserved
loop-point-preserved g c =
    let gr = c.args.grammar.now in
    let p = g.P.LetterPrice.view c.args.prices.now in
    let i = c.args.span.start in
    let point = c.loop-point.point in
    let next = c.first_in-point-in-loop-point in
    let k : point - i + 1 ≡ point + 1 - i = omega (arith, c.loop-point.invariant.low) in
    let more = subst (λ (n : ℕ). Least gr p c.args.suffix.rule c.args.suffix.from i c.args.span.len c.args.rule.now.right (Code 0) c.requires.within n c.or-best.result.sum) k
    (parts-next gr p c.args.suffix.rule c.args.suffix.from i c.args.span.len c.args.rule.now.right (Code 0) c.requires.within
    _ (point - i) c.part_least-sum.result c.loop-point.best.sum c.or-best.result.sum refl c.loop-point.invariant.least c.part_least-sum.ensures c.or-best.ensures.lesser) in
    record {
      low = omega (arith, next.ensures.low, c.loop-point.invariant.low);
      high = next.ensures.high;
      least = parts-skip gr p c.args.suffix.rule c.args.suffix.from i c.args.span.len c.args.rule.now.right (Code 0) c.requires.within c.split_points-points.result
          (point + 1) next.result c.or-best.result.sum (λ m one less. c.split_points-points.ensures p m c.requires.shorter one less)
          (omega (arith, c.loop-point.invariant.low)) next.ensures.low (omega (arith, next.ensures.high, c.end-end.ensures))
          (λ n le lt has. next.ensures.first n le (omega (arith, lt, c.end-end.ensures)) has) more;
      chosen = part-next gr p c.args.suffix.rule c.args.suffix.from _ c.args.rule.now.right i c.args.span.len c.loop-point.best c.or-best.result c.part_least-sum.result (point - i)
          c.loop-point.invariant.chosen c.part_least-sum.ensures c.or-best.ensures.chosen;
    }

pub returns-clause-least : goal.returns-clause-least
returns-clause-least g c =
    let same : c.loop-point.point - c.args.span.start ≡ c.args.span.len = omega (arith, c.loop-point.invariant.high, c.loop-point-test.false, c.end-end.ensures) in
    parts-end c.args.grammar.now (g.P.LetterPrice.view c.args.prices.now) c.args.suffix.rule c.args.suffix.from c.args.span.start c.args.span.len c.args.rule.now.right (Code 0) c.requires.within
    c.loop-point.best.sum (rw same at c.loop-point.invariant.least)

pub returns-clause-within : goal.returns-clause-within
returns-clause-within g c =
    let most : c.args.span.len ≤ 96 = omega arith in
    parts_within c.args.grammar.now c.requires.sound _ (g.met.P.LetterPrice.all_within c.args.prices.now) c.args.suffix.rule c.args.suffix.from c.args.span.start c.args.span.len _ _ most (returns-clause-least g c)

pub returns-in-Some-clause-within : goal.returns-in-Some-clause-within
returns-in-Some-clause-within g c =
    let most : c.args.span.len ≤ 96 = omega arith in
    parts_within c.args.grammar.now c.requires.sound _ (g.met.P.LetterPrice.all_within c.args.prices.now) c.args.suffix.rule c.args.suffix.from c.args.span.start c.args.span.len _ _ most c.least_split.ensures.least

pub returns-in-Code-clause-within : goal.returns-in-Code-clause-within
returns-in-Code-clause-within g c =
    let most : c.args.span.len ≤ 96 = omega arith in
    parts_within c.args.grammar.now c.requires.sound _ (g.met.P.LetterPrice.all_within c.args.prices.now) c.args.suffix.rule c.args.suffix.from c.args.span.start c.args.span.len _ _ most c.code_part.ensures.least
