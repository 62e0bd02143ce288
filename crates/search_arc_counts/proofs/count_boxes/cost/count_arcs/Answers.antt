use Rattle.std.proofs.Common.{arith, ◌∙◌}
use Rattle.model_rosters.specs.declared.grammar.ArcKey.{ArcKey}
use Rattle.search_arc_counts.proofs.count_boxes.LowSumsLemmas.{shaped-at, net-more, paid-more, room-at, within-more}
use Rattle.search_arc_counts.proofs.count_boxes.cost.count_arcs.Goals as goal

abbrev no_arc : ArcKey
no_arc = record { rule = 0; suffix = 0; start = 0; len = 0; part = 0 }

pub count_arc-requires-clause-shaped : goal.count_arc-requires-clause-shaped
count_arc-requires-clause-shaped c = shaped-at c.args.grammar.now c.args.arcs.now c.requires.arcs c.loop-place.place no_arc c.loop-place-test.true

pub count_arc-requires-clause-room : goal.count_arc-requires-clause-room
count_arc-requires-clause-room c =
    room-at c.args.grammar.now c.args.arcs.now c.args.bounds.now c.loop-place.place c.loop-place.nodes c.requires.small c.requires.few c.loop-place.invariant.net

pub arc_cost-requires-clause-shaped : goal.arc_cost-requires-clause-shaped
arc_cost-requires-clause-shaped c = shaped-at c.args.grammar.now c.args.arcs.now c.requires.arcs c.loop-place.place no_arc c.loop-place-test.true

pub loop-place-preserved : goal.loop-place-preserved
loop-place-preserved c =
    let small = c.requires.small c.loop-place.place (record { low = 0; high = 0 }) (omega (arith, c.requires.bounds, c.loop-place-test.true)) in
    record {
      net = net-more c.args.grammar.now c.args.arcs.now c.requires.arcs c.loop-place.place no_arc c.loop-place-test.true c.args.bounds.now c.requires.bounds c.loop-place.nodes c.count_arc.new.nodes
          c.loop-place.invariant.net c.count_arc.ensures;
      paid = paid-more c.args.grammar.now c.args.arcs.now c.requires.arcs c.loop-place.place no_arc c.loop-place-test.true c.args.bounds.now c.requires.bounds c.loop-place.cost c.from.result
          c.from-in-loop-place.result c.loop-place.invariant.paid c.from.ensures (c.from-in-loop-place.ensures ∙ c.arc_cost.ensures.value);
      within = within-more c.loop-place.cost c.loop-place.place c.from.result c.from-in-loop-place.result c.loop-place.invariant.within (omega (arith, c.from.ensures, small.0))
          (omega (arith, c.from-in-loop-place.ensures, c.arc_cost.ensures.within));
    }
