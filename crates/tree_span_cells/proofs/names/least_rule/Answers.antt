use Rattle.std.proofs.Common.{arith, ◌≡◌, ◌≤◌, ◌+◌, length}
use Rattle.model_rosters.specs.declared.grammar.Sym.TheVariants.{Name}
use Rattle.model_rosters.proofs.tree_laws.RuleLoop.{names-init, names-end}
use Rattle.model_rosters.proofs.tree_laws.Bounds.{symbol_within}
use Rattle.tree_span_cells.proofs.ChainsLemmas.{names-skip, names-more, first-read, next-read}
use Rattle.tree_span_cells.proofs.ChoicesLemmas.{rule-next}
use Rattle.tree_span_cells.proofs.names.least_rule.Goals as goal

pub loop-number-init : goal.loop-number-init
loop-number-init g c =
    let first = first-read c.args.grammar.now c.args.layout.now c.requires.ready.layout.chains c.args.name c.index-number.result.now c.requires.name c.index-number.ensures in
    record {
      low = first.low;
      high = first.high;
      there = first.there;
      least = rw c.none-best.ensures (names-skip c.args.grammar.now (g.P.LetterPrice.view c.args.prices.now) c.args.name c.args.span.start c.args.span.len 1 c.index-number.result.now _ first
          (names-init c.args.grammar.now (g.P.LetterPrice.view c.args.prices.now) c.args.name c.args.span.start c.args.span.len));
      chosen = rw c.none-best.ensures tt;
    }

pub loop-number-smaller : goal.loop-number-smaller
loop-number-smaller g c =
    let next = next-read c.args.grammar.now c.args.layout.now c.requires.ready.layout.chains c.args.name c.loop-number.number c.index-number-in-loop-number.result.now
    c.loop-number.invariant.low (omega arith) c.loop-number.invariant.there c.index-number-in-loop-number.ensures in
    omega (arith, next.low, next.high)

pub loop-number-preserved : goal.loop-number-preserved
loop-number-preserved g c =
    let p = g.P.LetterPrice.view c.args.prices.now in
    let number = c.loop-number.number in
    let next = next-read c.args.grammar.now c.args.layout.now c.requires.ready.layout.chains c.args.name number c.index-number-in-loop-number.result.now
    c.loop-number.invariant.low (omega arith) c.loop-number.invariant.there c.index-number-in-loop-number.ensures in
    record {
      low = omega (arith, next.low);
      high = next.high;
      there = next.there;
      least = names-skip c.args.grammar.now p c.args.name c.args.span.start c.args.span.len (number + 1) c.index-number-in-loop-number.result.now _ next
          (names-more c.args.grammar.now p c.args.name c.args.span.start c.args.span.len number c.loop-number.best.sum c.rule_least-sum.result c.or-best.result.sum
          c.loop-number.invariant.low c.loop-number.invariant.least c.rule_least-sum.ensures.least c.or-best.ensures.lesser);
      chosen = rule-next c.args.grammar.now p c.args.name c.args.span.start c.args.span.len c.loop-number.best c.or-best.result c.rule_least-sum.result number
          c.loop-number.invariant.chosen c.rule_least-sum.ensures.chosen c.or-best.ensures.chosen;
    }

pub returns-clause-least : goal.returns-clause-least
returns-clause-least g c =
    let same : c.loop-number.number ≡ length c.args.grammar.now.rules + 1 = omega (arith, c.loop-number.invariant.high, c.loop-number-test.false) in
    names-end c.args.grammar.now (g.P.LetterPrice.view c.args.prices.now) c.args.name c.args.span.start c.args.span.len c.loop-number.best.sum (rw same at c.loop-number.invariant.least)

pub returns-clause-within : goal.returns-clause-within
returns-clause-within g c =
    let most : c.args.span.len ≤ 96 = omega arith in
    symbol_within c.args.grammar.now c.requires.sound _ (g.met.P.LetterPrice.all_within c.args.prices.now) c.args.span.start c.args.span.len (Name c.args.name) _ most (returns-clause-least g c)
