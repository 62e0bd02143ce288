use Rattle.std.proofs.Common.{◌≡◌, rules, sym, ◌∙◌, to_z, of_z}
use mir.Syntax.{w128}
use Rattle.search_dives.proofs.ArcPrices.{found-price, no-price}
use Rattle.search_dives.proofs.widths.WidthsLetterPrice.arc.Goals as goal

pub returns-in_default-clause-value : goal.returns-in_default-clause-value
returns-in_default-clause-value c = sym (no-price c.args.self.now.graph.now.arcs c.args.self.now.prices.now c.args.arc.now c.in_default.ensures.none)

pub returns-clause-value : goal.returns-clause-value
returns-clause-value c =
    let kept : to_z w128 (of_z w128 c.price_at.result) ≡ c.price_at.result = search rules in
    kept ∙ c.price_at.ensures.value
    ∙ sym (found-price c.args.self.now.graph.now.arcs c.args.self.now.prices.now c.args.self.now.once c.in-Some.place c.args.arc.now c.in-Some.ensures.found)
