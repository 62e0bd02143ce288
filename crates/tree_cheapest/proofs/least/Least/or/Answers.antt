use Rattle.std.proofs.Common.{◌+ℤ◌, ℤ, ap, ◌∙◌}
use Rattle.tree_cheapest.proofs.NumbersLemmas.{better-held, better-sum}
use Rattle.tree_cheapest.proofs.least.Least.or.Goals as goal

pub returns-then-is_less-clause-better : goal.returns-then-is_less-clause-better
returns-then-is_less-clause-better g c =
    let a = g.N.Number.value c.first.inside.number in
    let b = g.N.Number.value c.rest.inside.number in
    let is = c.add-number.ensures ∙ ap (λ (z : ℤ). (a +ℤ z) +ℤ b) c.prices.view_is in
    better-sum g.N.Number.limits g.met.N.Number.are_limits a c.args.prices b (g.N.Number.value c.args.self.number) (g.N.Number.value c.add-number.result) c.requires.prices c.requires.most is
    c.args.first c.args.rest c.first.view_is c.rest.view_is c.requires.first c.requires.rest c.args.self.arc c.args.arc (c.is_less.ensures.less c.if-is_less.true)

pub returns-else-is_less-clause-better : goal.returns-else-is_less-clause-better
returns-else-is_less-clause-better g c =
    let a = g.N.Number.value c.first.inside.number in
    let b = g.N.Number.value c.rest.inside.number in
    let is = c.add-number.ensures ∙ ap (λ (z : ℤ). (a +ℤ z) +ℤ b) c.prices.view_is in
    better-held g.N.Number.limits g.met.N.Number.are_limits a c.args.prices b (g.N.Number.value c.args.self.number) (g.N.Number.value c.add-number.result) c.requires.prices c.requires.most is
    c.args.first c.args.rest c.first.view_is c.rest.view_is c.requires.first c.requires.rest c.args.self.arc c.args.arc (c.is_less.ensures.not c.if-is_less.false)
