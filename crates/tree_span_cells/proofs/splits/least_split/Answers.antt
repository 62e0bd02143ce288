use Rattle.std.proofs.Common.{arith, ◌≡◌, ◌<◌, ◌≤◌, ◌+◌, ◌-◌, None, refl, sym, subst, ℕ, get_or}
use Rattle.model_rosters.specs.declared.grammar.Sym.TheVariants.{Code}
use Rattle.std.proofs.lemmas.Int.{ints}
use mir.Val.{to_z, of_z}
use mir.Syntax.{w128}
use Rattle.tree_span_cells.specs.Numbers.{sum_below}
use Rattle.tree_span_cells.proofs.ChoicesLemmas.{number-next}
use Rattle.tree_span_cells.proofs.SplitsLemmas.{split-told}
use Rattle.tree_span_cells.proofs.PartsLemmas.{Least, parts-begin, parts-next, parts-skip, parts-end}
use Rattle.tree_span_cells.proofs.splits.least_split.Goals as goal

pub loop-point-init : goal.loop-point-init
loop-point-init g c =
    let gr = c.args.grammar.now in
    let p = g.P.LetterPrice.view c.args.prices.now in
    let i = c.args.span.start in
    let told = λ (m : ℕ) (one : 1 ≤ m) (less : m < c.args.span.len). split-told gr p c.args.layout.now (g.C.Cells.held c.args.cells.now) c.args.suffix.rule c.args.suffix.from i c.args.span.len
    c.args.rule.now.right (get_or c.args.rule.now.right c.args.suffix.from (Code 0)) c.args.split.head c.args.split.tail c.slot_points-points.result
    c.slot_points-points.ensures c.requires.head c.requires.tail m one less
    (c.requires.shorter i m (record { begins = omega arith; some = omega arith; within = omega (arith, less) }) less)
    (c.requires.shorter (i + m) (c.args.span.len - m) (record { begins = omega (arith, one); some = omega (arith, less); within = omega (arith, less) }) (omega (arith, one, less))) in
    let one : i + 1 - i ≡ 1 = omega arith in
    let begin = subst (λ (n : ℕ). Least gr p c.args.suffix.rule c.args.suffix.from i c.args.span.len c.args.rule.now.right (Code 0) c.requires.within n None) (sym one)
    (parts-begin gr p c.args.suffix.rule c.args.suffix.from i c.args.span.len c.args.rule.now.right (Code 0) c.requires.within) in
    record {
      low = c.first_in-point.ensures.low;
      high = c.first_in-point.ensures.high;
      least = rw c.none-best.ensures
          (parts-skip gr p c.args.suffix.rule c.args.suffix.from i c.args.span.len c.args.rule.now.right (Code 0) c.requires.within c.slot_points-points.result
          (i + 1) c.first_in-point.result None told
          (omega arith) c.first_in-point.ensures.low (omega (arith, c.first_in-point.ensures.high, c.end-end.ensures))
          (λ n le lt has. c.first_in-point.ensures.first n le (omega (arith, lt, c.end-end.ensures)) has) begin);
      chosen = rw c.none-best.ensures tt;
    }

pub loop-point-preserved : goal.loop-point-preserved
loop-point-preserved g c =
    let gr = c.args.grammar.now in
    let p = g.P.LetterPrice.view c.args.prices.now in
    let i = c.args.span.start in
    let told = λ (m : ℕ) (one : 1 ≤ m) (less : m < c.args.span.len). split-told gr p c.args.layout.now (g.C.Cells.held c.args.cells.now) c.args.suffix.rule c.args.suffix.from i c.args.span.len
    c.args.rule.now.right (get_or c.args.rule.now.right c.args.suffix.from (Code 0)) c.args.split.head c.args.split.tail c.slot_points-points.result
    c.slot_points-points.ensures c.requires.head c.requires.tail m one less
    (c.requires.shorter i m (record { begins = omega arith; some = omega arith; within = omega (arith, less) }) less)
    (c.requires.shorter (i + m) (c.args.span.len - m) (record { begins = omega (arith, one); some = omega (arith, less); within = omega (arith, less) }) (omega (arith, one, less))) in
    let point = c.loop-point.point in
    let next = c.first_in-point-in-loop-point in
    let k : point - i + 1 ≡ point + 1 - i = omega (arith, c.loop-point.invariant.low) in
    let same : to_z w128 (of_z w128 c.split_least-number.result) ≡ c.split_least-number.result = omega (arith, ints) in
    let more = subst (λ (n : ℕ). Least gr p c.args.suffix.rule c.args.suffix.from i c.args.span.len c.args.rule.now.right (Code 0) c.requires.within n (sum_below c.take.new.self.number)) k
    (parts-next gr p c.args.suffix.rule c.args.suffix.from i c.args.span.len c.args.rule.now.right (Code 0) c.requires.within
    _ (point - i) (sum_below c.split_least-number.result) (sum_below c.loop-point.best.number) (sum_below c.take.new.self.number) refl c.loop-point.invariant.least c.split_least-number.ensures (rw same at c.take.ensures.lesser)) in
    record {
      low = omega (arith, next.ensures.low, c.loop-point.invariant.low);
      high = next.ensures.high;
      least = parts-skip gr p c.args.suffix.rule c.args.suffix.from i c.args.span.len c.args.rule.now.right (Code 0) c.requires.within c.slot_points-points.result
          (point + 1) next.result (sum_below c.take.new.self.number) told
          (omega (arith, c.loop-point.invariant.low)) next.ensures.low (omega (arith, next.ensures.high, c.end-end.ensures))
          (λ n le lt has. next.ensures.first n le (omega (arith, lt, c.end-end.ensures)) has) more;
      chosen = number-next gr p c.args.suffix.rule c.args.suffix.from _ c.args.rule.now.right i c.args.span.len c.loop-point.best c.take.new.self c.split_least-number.result (point - i)
          c.loop-point.invariant.chosen c.split_least-number.ensures (rw same at c.take.ensures.chosen);
    }

pub returns-clause-least : goal.returns-clause-least
returns-clause-least g c =
    let same : c.loop-point.point - c.args.span.start ≡ c.args.span.len = omega (arith, c.loop-point.invariant.high, c.loop-point-test.false, c.end-end.ensures) in
    rw c.choice.ensures.sum
    (parts-end c.args.grammar.now (g.P.LetterPrice.view c.args.prices.now) c.args.suffix.rule c.args.suffix.from c.args.span.start c.args.span.len c.args.rule.now.right (Code 0) c.requires.within
    (sum_below c.loop-point.best.number) (rw same at c.loop-point.invariant.least))

pub returns-clause-chosen : goal.returns-clause-chosen
returns-clause-chosen g c = rw (c.choice.ensures.sum, c.choice.ensures.number) c.loop-point.invariant.chosen
