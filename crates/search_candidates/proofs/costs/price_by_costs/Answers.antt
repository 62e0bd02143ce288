use Rattle.std.proofs.Common.{◌∙◌}
use Rattle.model_rosters.specs.PriceRooms.{price_view}
use Rattle.search_candidates.proofs.CostPrices.{costs-are}
use Rattle.search_candidates.proofs.costs.price_by_costs.Goals as goal

pub cheapest-requires-clause-graph : goal.cheapest-requires-clause-graph
cheapest-requires-clause-graph c = (c.args.day.now.instance.now.grammar, c.requires.day.sound.grammar, c.requires.day.graph)

pub returns-clause-costs : goal.returns-clause-costs
returns-clause-costs c = record {
  priced = record {
    day = c.requires.day;
    made = c.cheapest.ensures.kept c.args.day.now.graph.now c.requires.pricing.pricer;
    filled = c.cheapest.ensures.filled c.args.day.now.instance.now.grammar c.requires.day.sound.grammar c.requires.day.graph;
  };
  costs = costs-are c.args.day.now.instance.now c.requires.day.sound (price_view c.set_parts.new.self) c.as_slice.result.now c.len.result (c.as_slice.ensures.value ∙ c.in_ok-zeros.ensures.items_if_clones_equal (λ y h. h)) c.set_parts.ensures.value;
}
