use Rattle.std.proofs.Common.{rules, get_or, ◌<◌, ◌+◌, ◌^◌}
use Rattle.std.specs.Prelude.{slice_index}
use Rattle.std.proofs.Math.ListN.{drop_of_length-le}
use Rattle.model_rosters.specs.declared.grammar.ArcKey.{ArcKey}
use Rattle.search_arc_weights.proofs.Steps.{cons_of}
use Rattle.search_arc_weights.proofs.SumsLemmas.{place_within, sum_fits, sum_added, none_added, all_added}
use Rattle.search_arc_weights.proofs.sums.add_arcs.Goals as goal
use Rattle.search_arc_weights.proofs.sums.add_arcs.Goals.{in-Some, in_default}

abbrev no_arc : ArcKey
no_arc = record { rule = 0; suffix = 0; start = 0; len = 0; part = 0 }

pub overflow_add-sums : goal.overflow_add-sums
overflow_add-sums c =
    let at = cons_of c.args.arcs.now c.loop-arc.arc-index no_arc c.loop-arc-test.true in
    let f : slice_index c.loop-arc.sums c.in-Some.place + c.args.units < 2 ^ 128 = sum_fits c.args.graph.now.arcs c.args.units c.args.arcs.now c.args.sums.now c.loop-arc.sums c.loop-arc.arc-index (get_or c.args.arcs.now c.loop-arc.arc-index no_arc) at c.loop-arc.invariant c.in-Some.place c.in-Some.ensures.found c.requires.each c.requires.room in
    search rules

pub bounds-sums-place-in-Some : goal.bounds-sums-place-in-Some
bounds-sums-place-in-Some c =
    let at = cons_of c.args.arcs.now c.loop-arc.arc-index no_arc c.loop-arc-test.true in
    place_within c.args.graph.now.arcs c.args.units c.args.arcs.now c.args.sums.now c.loop-arc.sums c.loop-arc.arc-index (get_or c.args.arcs.now c.loop-arc.arc-index no_arc) at c.loop-arc.invariant c.in-Some.place c.in-Some.ensures.found c.requires.each

pub loop-arc-preserved : goal.loop-arc-preserved
loop-arc-preserved c =
    let at = cons_of c.args.arcs.now c.loop-arc.arc-index no_arc c.loop-arc-test.true in
    elim c.match-find.branch [
      | in-Some w ↦ rw w.sums-is (sum_added c.args.graph.now.arcs c.args.units c.args.arcs.now c.args.sums.now c.loop-arc.sums c.loop-arc.arc-index (get_or c.args.arcs.now c.loop-arc.arc-index no_arc) at c.loop-arc.invariant w.in-Some.place w.in-Some.ensures.found c.requires.each c.requires.once)
      | in_default w ↦ rw w.sums-is (none_added c.args.graph.now.arcs c.args.units c.args.arcs.now c.args.sums.now c.loop-arc.sums c.loop-arc.arc-index (get_or c.args.arcs.now c.loop-arc.arc-index no_arc) at c.loop-arc.invariant (search rules))
    ]

pub returns-clause-sums : goal.returns-clause-sums
returns-clause-sums c = all_added c.args.graph.now.arcs c.args.units c.args.arcs.now c.args.sums.now c.loop-arc.sums c.loop-arc.arc-index (drop_of_length-le c.args.arcs.now c.loop-arc-test.false) c.loop-arc.invariant
