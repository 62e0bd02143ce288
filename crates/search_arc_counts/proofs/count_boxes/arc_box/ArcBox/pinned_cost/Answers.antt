use Rattle.std.proofs.Common.{List, subst, ◌∙◌, ap}
use Rattle.search_arc_counts.specs.declared.count_boxes.bounds.Bounds.{Bounds}
use Rattle.search_arc_counts.specs.count_boxes.Boxes.{BoxView}
use Rattle.search_arc_counts.specs.count_boxes.Costs.{low_of, IsCostOf}
use Rattle.search_arc_counts.proofs.count_boxes.CostsLemmas.{cost-listed, cost-pinned}
use Rattle.search_arc_counts.proofs.count_boxes.arc_box.ArcBox.pinned_cost.Goals as goal

pub returns-clause-listed : goal.returns-clause-listed
returns-clause-listed c =
    let cost = subst (λ (bounds : List Bounds). IsCostOf c.args.instance.now c.args.graph.now.arcs (low_of c.args.graph.now.arcs bounds) c.least_cost.result)
    (c.as_slice.ensures.value ∙ ap (λ (b : BoxView). b.bounds) c.self.view_is) c.least_cost.ensures.cost in
    λ listed are. cost-listed c.args.instance.now c.args.graph.now c.requires.graph (low_of c.args.graph.now.arcs c.args.self.now.bounds) c.least_cost.result cost listed are

pub returns-clause-path : goal.returns-clause-path
returns-clause-path c =
    let cost = subst (λ (bounds : List Bounds). IsCostOf c.args.instance.now c.args.graph.now.arcs (low_of c.args.graph.now.arcs bounds) c.least_cost.result)
    (c.as_slice.ensures.value ∙ ap (λ (b : BoxView). b.bounds) c.self.view_is) c.least_cost.ensures.cost in
    λ cuts box. cost-pinned c.args.instance.now c.args.graph.now c.requires.graph cuts c.args.self.now c.least_cost.result box cost
