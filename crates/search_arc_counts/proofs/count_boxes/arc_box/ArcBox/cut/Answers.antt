use Rattle.std.proofs.Common.{rules, ap, ◌∙◌, ◌≤◌, ◌<◌, sym, subst, length}
use Rattle.std.proofs.lemmas.List.{get_or_read}
use Rattle.search_arc_counts.specs.declared.count_boxes.bounds.Bounds.{Bounds}
use Rattle.search_arc_counts.specs.count_boxes.Boxes.{BoxView, bounds_at, halved}
use Rattle.search_arc_counts.specs.count_boxes.Paths.{IsBoxOf}
use Rattle.search_arc_counts.proofs.count_boxes.PathsLemmas.{box-cut}
use Rattle.search_arc_counts.proofs.count_boxes.arc_box.ArcBox.cut.Goals as goal

pub returns-clause-path : goal.returns-clause-path
returns-clause-path c =
    λ i v cuts a graph at h.
    let low = subst (λ (b : BoxView). (bounds_at b.bounds c.args.arc).low ≤ c.args.b) (sym c.self.view_is) c.requires.low in
    let high = subst (λ (b : BoxView). c.args.b < (bounds_at b.bounds c.args.arc).high) (sym c.self.view_is) c.requires.high in
    box-cut i v graph cuts c.args.arc a at c.args.side c.args.b c.self.inside.bounds.items (length c.self.inside.nodes.items)
    (subst (λ (b : BoxView). IsBoxOf i v cuts b) (sym c.self.view_is) h) c.halved.result (c.halved.ensures ∙ ap (λ (x : Bounds). halved c.args.side c.args.b x) (get_or_read c.self.inside.bounds.items _ _ (search rules) c.index-bounds.ensures (record { low = 0; high = 0 }))) low high
