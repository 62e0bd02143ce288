use Rattle.std.proofs.Common.{◌++◌, ◌∷◌, [], sym, subst, length}
use Rattle.search_arc_counts.specs.count_boxes.Boxes.{BoxView}
use Rattle.search_arc_counts.specs.count_boxes.Paths.{IsBoxOf}
use Rattle.search_arc_counts.proofs.count_boxes.PathsLemmas.{box-back}
use Rattle.search_arc_counts.proofs.count_boxes.arc_box.ArcBox.set_back.Goals as goal

pub returns-clause-path : goal.returns-clause-path
returns-clause-path c =
    λ i v cuts a side b graph at h was.
    box-back i v graph cuts c.args.arc a at side b c.self.inside.bounds.items (length c.self.inside.nodes.items) c.args.old
    (subst (λ (x : BoxView). IsBoxOf i v (cuts ++ record { arc = a; side = side; b = b } ∷ []) x) (sym c.self.view_is) h) was
