use Rattle.std.proofs.Common.{arith}
use Rattle.search_branch_price.proofs.ShownValues.{lawful-shown}
use Rattle.search_branch_price.proofs.leaf.shown_prices.Goals as goal

pub shown_value-value-requires-clause-prices : goal.shown_value-value-requires-clause-prices
shown_value-value-requires-clause-prices c = record { fit = c.requires.lawful.fit.fit; positive = c.requires.lawful.fit.positive; small = c.requires.small }

pub returns-clause-shown : goal.returns-clause-shown
returns-clause-shown c =
    lawful-shown c.args.node.now.searched.day.instance.now c.args.node.now.cuts.now c.args.prices c.shown_value-value.result c.args.limit c.requires.lawful c.shown_value-value.ensures.value
    (let no = c.if-value-limit.false in omega (arith, no))
