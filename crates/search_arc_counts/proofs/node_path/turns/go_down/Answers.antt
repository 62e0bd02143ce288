use Rattle.std.proofs.Common.{List, subst, ◌++◌, get_or, take}
use Rattle.std.proofs.lemmas.Option.{slice_get-get_or}
use Rattle.model_rosters.specs.declared.instance.Cut.{Cut}
use Rattle.model_rosters.specs.declared.instance.Instance.{Instance}
use Rattle.model_rosters.specs.Arcs.{IsArc}
use Rattle.model_rosters.proofs.EachLemmas.{Each-get}
use Rattle.search_arc_counts.specs.count_boxes.Paths.{IsBoxOf}
use Rattle.search_arc_counts.specs.node_path.Paths.{AreTurns}
use Rattle.search_arc_counts.specs.node_path.Steps.{CanGoDown, CanCut}
use Rattle.search_arc_counts.proofs.node_path.TurnsLemmas.{within-at, take-more}
use Rattle.search_arc_counts.proofs.node_path.turns.go_down.Goals as goal

pub turn_at-requires : goal.turn_at-requires
turn_at-requires c =
    let r = c.requires in
    let at = slice_get-get_or c.args.cuts.now c.loop-cut.cut-index _ c.loop-cut-test.true in
    (r.0, r.1 ++ take c.loop-cut.cut-index c.args.cuts.now, record { graph = r.2.graph; left = c.loop-cut.invariant.0 r.0 r.1 r.2; within = within-at r.0 r.1 c.args.cuts.now c.loop-cut.cut-index _ r.2.within at })

pub loop-cut-preserved : goal.loop-cut-preserved
loop-cut-preserved c =
    let cuts = c.args.cuts.now in
    let v = c.args.graph.now in
    let k = c.loop-cut.cut-index in
    let at = slice_get-get_or cuts k _ c.loop-cut-test.true in
    let can : (i : Instance) (above : List Cut) → CanGoDown i v above cuts c.args.arc_box.now → CanCut i v (above ++ take k cuts) (get_or cuts k _) c.loop-cut.arc_box =
    λ i above h. record { graph = h.graph; left = c.loop-cut.invariant.0 i above h; within = within-at i above cuts k _ h.within at } in (
      λ i above h. subst (λ (xs : List Cut). IsBoxOf i v xs c.turn_at.new.arc_box) (take-more above cuts k _ at) (c.in_ok-turn_at.ensures.left i (above ++ take k cuts) (can i above h)),
      λ i above h are. subst (λ (xs : List Cut). AreTurns i v above c.turn_at.new.turns.items xs) (take-more above cuts k _ at)
          (c.in_ok-turn_at.ensures.turned i above (above ++ take k cuts) (can i above h) (Each-get (λ (x : Cut). IsArc i.grammar x.arc) cuts k _ h.arcs at) (c.loop-cut.invariant.1 i above h are)),
    )
