use Rattle.std.proofs.Common.{◌≡◌, ◌*◌, subst, List}
use Rattle.model_rosters.specs.declared.grammar.ArcKey.{ArcKey}
use Rattle.model_rosters.specs.Folds.{sum_n}
use Rattle.model_rosters.specs.arc_laws.Counts.{top_cost}
use Rattle.check_parts.specs.pinned_part.Net.{IsNet}
use Rattle.search_arc_counts.specs.count_boxes.Costs.{low_of}
use Rattle.search_arc_counts.proofs.count_boxes.CostsLemmas.{cost-some, cost-none}
use Rattle.search_arc_counts.proofs.count_boxes.cost.least_cost.Goals as goal

pub returns-in-Some : goal.returns-in-Some
returns-in-Some c =
    let i = c.args.instance.now in
    let v = c.args.graph.now in
    let value = low_of c.args.graph.now.arcs c.args.bounds.now in
    let net = subst (λ (xs : List ArcKey). IsNet c.args.instance.now.grammar xs (low_of xs c.args.bounds.now) c.count_arcs-cost.new.nodes) c.arcs.ensures.arcs c.count_arcs-cost.ensures.net in
    let paid = subst (λ (xs : List ArcKey). c.count_arcs-cost.result ≡ sum_n (λ a. low_of xs c.args.bounds.now a * top_cost c.args.instance.now.grammar a) xs) c.arcs.ensures.arcs c.count_arcs-cost.ensures.paid in
    record { cost = cost-some i v c.requires.graph c.requires.sound value c.count_arcs-cost.new.nodes net c.count_arcs-cost.result c.in-Some.penalties paid c.in-Some.ensures.0 c.in-Some.ensures.1 }

pub returns-in-None : goal.returns-in-None
returns-in-None c =
    let value = low_of c.args.graph.now.arcs c.args.bounds.now in
    let net = subst (λ (xs : List ArcKey). IsNet c.args.instance.now.grammar xs (low_of xs c.args.bounds.now) c.count_arcs-cost.new.nodes) c.arcs.ensures.arcs c.count_arcs-cost.ensures.net in
    record { cost = cost-none c.args.instance.now c.args.graph.now c.requires.graph c.requires.sound value c.count_arcs-cost.new.nodes net c.in-None.ensures }
