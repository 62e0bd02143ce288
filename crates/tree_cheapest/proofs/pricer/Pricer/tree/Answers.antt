use Rattle.std.proofs.Common.{◌≡◌, ap, sym, ◌∙◌}
use Rattle.tree_cheapest.specs.Pricers.{PricerView}
use Rattle.tree_cheapest.proofs.RootLemmas.{asks-root, holds-root, most-kept}
use Rattle.tree_cheapest.proofs.pricer.Pricer.tree.Goals as goal

pub write_node-requires : goal.write_node-requires
write_node-requires g c =
    let links : c.args.self.now.links ≡ c.self.inside.links = ap (λ (q : PricerView). q.links) (sym c.self.view_is) in
    let best : c.args.self.now.best ≡ c.as_slice.result.now = ap (λ (q : PricerView). q.best) (sym c.self.view_is) ∙ sym c.as_slice.ensures.value in
    asks-root c.requires.asks.0 (g.P.LetterPrice.view c.args.prices.now) c.args.graph.now c.args.self.now c.self.inside.links c.as_slice.result.now c.args.room.now c.clear.new.self c.in-Some.root c.requires.asks.1 c.requires.made links best c.clear.ensures (sym c.in-Some.ensures)

pub returns-clause-tree : goal.returns-clause-tree
returns-clause-tree g c = λ g2 asks.
    let links : c.args.self.now.links ≡ c.self.inside.links = ap (λ (q : PricerView). q.links) (sym c.self.view_is) in
    let best : c.args.self.now.best ≡ c.as_slice.result.now = ap (λ (q : PricerView). q.best) (sym c.self.view_is) ∙ sym c.as_slice.ensures.value in
    holds-root g2 (g.P.LetterPrice.view c.args.prices.now) c.args.graph.now c.args.self.now c.self.inside.links c.as_slice.result.now c.args.room.now c.clear.new.self c.in-Some.root asks c.requires.made links best c.clear.ensures (sym c.in-Some.ensures) c.write_node.new.room c.write_node.ensures

pub returns-clause-kept : goal.returns-clause-kept
returns-clause-kept g c =
    let links : c.args.self.now.links ≡ c.self.inside.links = ap (λ (q : PricerView). q.links) (sym c.self.view_is) in
    let best : c.args.self.now.best ≡ c.as_slice.result.now = ap (λ (q : PricerView). q.best) (sym c.self.view_is) ∙ sym c.as_slice.ensures.value in
    most-kept c.requires.asks.0 (g.P.LetterPrice.view c.args.prices.now) c.args.graph.now c.args.self.now c.self.inside.links c.as_slice.result.now c.args.room.now c.clear.new.self c.in-Some.root c.requires.asks.1 c.requires.made links best c.clear.ensures (sym c.in-Some.ensures) c.write_node.new.room c.write_node.ensures
