use Rattle.std.proofs.Common.{◌≡◌, ap, sym, ◌∙◌}
use Rattle.tree_cheapest.specs.Pricers.{PricerView}
use Rattle.tree_cheapest.proofs.UnderLemmas.{asks-under, holds-under, most-under}
use Rattle.tree_cheapest.proofs.pricer.Pricer.tree_under.Goals as goal

pub write_under-requires : goal.write_under-requires
write_under-requires g c =
    let links : c.args.self.now.links ≡ c.self.inside.links = ap (λ (q : PricerView). q.links) (sym c.self.view_is) in
    let best : c.args.self.now.best ≡ c.as_slice.result.now = ap (λ (q : PricerView). q.best) (sym c.self.view_is) ∙ sym c.as_slice.ensures.value in
    asks-under c.requires.asks.0 (g.P.LetterPrice.view c.args.prices.now) c.args.graph.now c.args.self.now c.self.inside.links c.as_slice.result.now c.args.room.now c.clear.new.self c.args.arc c.requires.asks.1 c.requires.asks.2 c.requires.made links best c.clear.ensures

pub returns-clause-tree : goal.returns-clause-tree
returns-clause-tree g c = λ g2 a asks.
    let links : c.args.self.now.links ≡ c.self.inside.links = ap (λ (q : PricerView). q.links) (sym c.self.view_is) in
    let best : c.args.self.now.best ≡ c.as_slice.result.now = ap (λ (q : PricerView). q.best) (sym c.self.view_is) ∙ sym c.as_slice.ensures.value in
    holds-under g2 (g.P.LetterPrice.view c.args.prices.now) c.args.graph.now c.args.self.now c.self.inside.links c.as_slice.result.now c.args.room.now c.clear.new.self c.args.arc a asks c.requires.made links best c.clear.ensures c.write_under.new.room c.write_under.ensures

pub returns-clause-kept : goal.returns-clause-kept
returns-clause-kept g c =
    let links : c.args.self.now.links ≡ c.self.inside.links = ap (λ (q : PricerView). q.links) (sym c.self.view_is) in
    let best : c.args.self.now.best ≡ c.as_slice.result.now = ap (λ (q : PricerView). q.best) (sym c.self.view_is) ∙ sym c.as_slice.ensures.value in
    most-under c.requires.asks.0 (g.P.LetterPrice.view c.args.prices.now) c.args.graph.now c.args.self.now c.self.inside.links c.as_slice.result.now c.args.room.now c.clear.new.self c.args.arc c.requires.asks.1 c.requires.asks.2 c.requires.made links best c.clear.ensures c.write_under.new.room c.write_under.ensures
