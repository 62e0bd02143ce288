use Rattle.std.proofs.Common.{arith, rules, ◌≡◌}
use Rattle.search_arc_weights.proofs.SolvingWeights.{of_solved, pool_is, room_is, few_is}
use Rattle.search_arc_weights.proofs.raw.farthest_from_whole.Goals as goal

pub arc_sums-requires-clause-pool : goal.arc_sums-requires-clause-pool
arc_sums-requires-clause-pool c =
    let r = of_solved c.args.node.now.day.instance.now c.args.node.now.cuts.now c.args.node.now.pool.now c.args.node.now.weights.now c.args.node.now.solution c.requires.weights in
    pool_is c.args.node.now.day.instance.now c.args.node.now.day.graph.now c.args.node.now.cuts.now c.args.node.now.pool.now c.args.node.now.weights.now c.requires.day.sound c.in-Some.d c.in-Some.ensures.common r

pub arc_sums-requires-clause-room : goal.arc_sums-requires-clause-room
arc_sums-requires-clause-room c =
    let r = of_solved c.args.node.now.day.instance.now c.args.node.now.cuts.now c.args.node.now.pool.now c.args.node.now.weights.now c.args.node.now.solution c.requires.weights in
    room_is c.args.node.now.day.instance.now c.args.node.now.day.graph.now c.args.node.now.cuts.now c.args.node.now.pool.now c.args.node.now.weights.now c.requires.day.sound c.in-Some.d c.in-Some.ensures.common r

pub farthest-requires-clause-fit : goal.farthest-requires-clause-fit
farthest-requires-clause-fit c =
    let e : c.as_slice.result.now ≡ c.in_ok-sums.sums.items = search rules in
    let r = of_solved c.args.node.now.day.instance.now c.args.node.now.cuts.now c.args.node.now.pool.now c.args.node.now.weights.now c.args.node.now.solution c.requires.weights in
    rw e record {
      some = c.in-Some.ensures.common.some;
      each = omega (arith, c.requires.left.made.arcs, c.in_ok-sums.ensures.each);
      few = few_is c.args.node.now.day.instance.now c.args.node.now.day.graph.now c.args.node.now.cuts.now c.args.node.now.pool.now c.args.node.now.weights.now c.requires.day.sound c.in-Some.d c.in-Some.ensures.common r c.in_ok-sums.sums.items c.in_ok-sums.ensures;
    }
