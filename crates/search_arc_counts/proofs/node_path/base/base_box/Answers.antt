use Rattle.std.proofs.Common.{List, subst, sym, [], take}
use Rattle.std.proofs.lemmas.Option.{slice_get-get_or}
use Rattle.model_rosters.specs.declared.instance.Cut.{Cut}
use Rattle.search_arc_counts.specs.count_boxes.Paths.{IsBoxOf}
use Rattle.search_arc_counts.specs.node_path.Steps.{AreWithin}
use Rattle.search_arc_counts.proofs.node_path.BaseLemmas.{base-within}
use Rattle.search_arc_counts.proofs.node_path.TurnsLemmas.{within-at, take-more}
use Rattle.search_arc_counts.proofs.node_path.base.base_box.Goals as goal

pub narrow-requires : goal.narrow-requires
narrow-requires c =
    let cuts = c.args.cuts.now in
    let k = c.loop-cut.cut-index in
    let at = slice_get-get_or cuts k _ c.loop-cut-test.true in
    let within : AreWithin c.args.day.now.instance.now [] cuts = subst (λ (xs : List Cut). AreWithin c.args.day.now.instance.now [] xs) (sym c.requires.cuts) (base-within c.args.day.now.instance.now c.requires.day.sound) in
    (c.args.day.now.instance.now, take k cuts, record { graph = c.requires.day.graph; left = c.loop-cut.invariant; within = within-at c.args.day.now.instance.now [] cuts k _ within at })

pub loop-cut-preserved : goal.loop-cut-preserved
loop-cut-preserved c =
    let cuts = c.args.cuts.now in
    let k = c.loop-cut.cut-index in
    let at = slice_get-get_or cuts k _ c.loop-cut-test.true in
    let within : AreWithin c.args.day.now.instance.now [] cuts = subst (λ (xs : List Cut). AreWithin c.args.day.now.instance.now [] xs) (sym c.requires.cuts) (base-within c.args.day.now.instance.now c.requires.day.sound) in
    subst (λ (xs : List Cut). IsBoxOf c.args.day.now.instance.now c.args.day.now.graph.now xs c.narrow.new.arc_box) (take-more [] cuts k _ at)
    (c.narrow.ensures.left c.args.day.now.instance.now (take k cuts) (record { graph = c.requires.day.graph; left = c.loop-cut.invariant; within = within-at c.args.day.now.instance.now [] cuts k _ within at }))
