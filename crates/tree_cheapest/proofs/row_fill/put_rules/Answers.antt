use Rattle.std.proofs.Common.{arith, ◌≡◌, ◌+◌, ◌<◌, pos, length, ◌∙◌}
use Rattle.std.proofs.lemmas.Int.{ints}
use Rattle.std.proofs.lemmas.List.{get_or-set_same, length-set}
use Rattle.tree_cheapest.proofs.NumbersLemmas.{first-small, rules-none, rules-each, rules-small}
use Rattle.tree_cheapest.proofs.row_fill.put_rules.Goals as goal

pub loop-rule-init : goal.loop-rule-init
loop-rule-init g c =
    let rules = c.args.rules.now in
    let z = c.zero.result in
    let inside : 0 < length rules = omega (arith, c.requires) in
    record {
      count = length-set rules 0 z ∙ c.requires;
      none = get_or-set_same rules 0 z (pos 0) inside ∙ c.zero.ensures;
      each = λ r lt. absurd (omega (arith, lt));
      small = λ k le. first-small g.N.Number.limits.price rules z inside c.zero.ensures k le;
    }

pub loop-rule-preserved : goal.loop-rule-preserved
loop-rule-preserved g c =
    let inv = c.loop-rule.invariant in
    let rules = c.loop-rule.rules in
    let n = c.loop-rule.rule in
    let z = c.in-Some.price in
    let price = c.rule.ensures in
    let inside : n + 1 < length rules = omega (arith, inv.count, c.loop-rule-test.true) in
    let read : z ≡ c.rule.result = omega (arith, ints, c.in-Some.ensures.same, price.within.low, price.within.high) in
    record {
      count = length-set rules (n + 1) z ∙ inv.count;
      none = rules-none rules n z inside ∙ inv.none;
      each = rules-each rules n z inside (g.P.LetterPrice.view c.args.prices.now).rule_of (read ∙ price.value) inv.each;
      small = rules-small rules n z inside g.N.Number.limits.price c.in-Some.ensures.within inv.small;
    }

pub returns-clause-rules : goal.returns-clause-rules
returns-clause-rules g c = λ yes.
    let inv = c.loop-rule.invariant in
    record {
      count = inv.count;
      none = inv.none;
      each = λ r lt. inv.each r (omega (arith, lt, c.loop-rule-test.false));
      small = λ k lt. inv.small k (omega (arith, lt, c.loop-rule-test.false));
    }

pub returns-in_default-clause-fits : goal.returns-in_default-clause-fits
returns-in_default-clause-fits g c = λ le.
    let price = c.rule.ensures.within in
    absurd (c.in_default.ensures.beyond (record { low = omega (arith, ints, le, price.low, price.high); high = omega (arith, ints, le, price.low, price.high) }))
