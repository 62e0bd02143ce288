use Rattle.std.proofs.Common.{ap, sym, ◌∙◌}
use Rattle.tree_cheapest.specs.Pricers.{PricerView}
use Rattle.tree_cheapest.proofs.pricer.Pricer.sum_under.Goals as goal

pub returns : goal.returns
returns g c = record {
  least = λ g2 a ready top. c.least_under.ensures (record {
    g = g2;
    w = c.args.self.now;
    ready = ready;
    made = c.requires.made;
    same_links = ap (λ (q : PricerView). q.links) (sym c.self.view_is);
    same_values = ap (λ (q : PricerView). q.values) (sym c.self.view_is) ∙ sym c.as_slice.ensures.value;
    inside = c.requires.arc;
  }) a top;
}
