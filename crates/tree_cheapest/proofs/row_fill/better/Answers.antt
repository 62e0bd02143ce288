use Rattle.std.proofs.Common.{◌≡◌, ◌+ℤ◌, ℤ, Option, IfSome, ap, subst, sym, ◌∙◌}
use Rattle.model_rosters.specs.Sums.{Within}
use Rattle.tree_cheapest.specs.Extras.{number_at}
use Rattle.tree_cheapest.specs.Numbers.{sum_but}
use Rattle.tree_cheapest.specs.Passes.{maker_price}
use Rattle.tree_cheapest.specs.Pricers.{value_at}
use Rattle.tree_cheapest.proofs.ExtrasLemmas.{number-read}
use Rattle.tree_cheapest.proofs.LinksLemmas.{value-read}
use Rattle.tree_cheapest.proofs.NumbersLemmas.{better-read, two-prices}
use Rattle.tree_cheapest.proofs.row_fill.better.Goals as goal

pub or-requires-clause-prices : goal.or-requires-clause-prices
or-requires-clause-prices g c =
    let x = c.args.maker in
    let m = c.requires.maker in
    let rule : c.index-rules-maker.result ≡ number_at c.args.rules.now x.code = number-read c.args.rules.now x.code _ _ m.code_in c.index-rules-maker.is in
    let extra : c.index-extras-maker.result ≡ number_at c.args.extras.now x.arc = number-read c.args.extras.now x.arc _ _ m.arc_in c.index-extras-maker.is in
    two-prices g.N.Number.limits.price (number_at c.args.rules.now x.code) (number_at c.args.extras.now x.arc) c.plus-prices.result m.rule m.extra
    (c.plus-prices.ensures ∙ ap (λ (z : ℤ). z +ℤ c.index-extras-maker.result) rule ∙ ap (λ (z : ℤ). number_at c.args.rules.now x.code +ℤ z) extra)

pub or-requires-clause-rest : goal.or-requires-clause-rest
or-requires-clause-rest g c =
    let x = c.args.maker in
    subst (λ (q : Option ℤ). IfSome q (Within g.N.Number.limits.sum)) (sym (value-read c.args.sums.now x.rest _ c.index-sums-maker-2.result c.requires.maker.rest_in c.index-sums-maker-2.is))
    (c.requires.small x.rest c.requires.maker.rest_in)

pub returns-clause-better : goal.returns-clause-better
returns-clause-better g c =
    let x = c.args.maker in
    let m = c.requires.maker in
    let rule : c.index-rules-maker.result ≡ number_at c.args.rules.now x.code = number-read c.args.rules.now x.code _ _ m.code_in c.index-rules-maker.is in
    let extra : c.index-extras-maker.result ≡ number_at c.args.extras.now x.arc = number-read c.args.extras.now x.arc _ _ m.arc_in c.index-extras-maker.is in
    better-read (sum_but g.N.Number.limits.least (g.N.Number.value c.args.least.number)) c.args.least.arc c.index-sums-maker.result (value_at c.args.sums.now x.first) c.index-sums-maker-2.result (value_at c.args.sums.now x.rest) c.plus-prices.result
    (maker_price c.args.rules.now c.args.extras.now x) x.arc (sum_but g.N.Number.limits.least (g.N.Number.value c.or.result.number)) c.or.result.arc c.or.ensures.better
    (value-read c.args.sums.now x.first _ _ m.first_in c.index-sums-maker.is)
    (value-read c.args.sums.now x.rest _ _ m.rest_in c.index-sums-maker-2.is)
    (c.plus-prices.ensures ∙ ap (λ (z : ℤ). z +ℤ c.index-extras-maker.result) rule ∙ ap (λ (z : ℤ). number_at c.args.rules.now x.code +ℤ z) extra)
