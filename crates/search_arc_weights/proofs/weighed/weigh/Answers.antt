use Rattle.std.proofs.Common.{arith, rules, ◌≡◌, Result, Ok, Err, IfOk}
use Rattle.search_arc_weights.specs.Denominators.{AreAllPast}
use Rattle.search_arc_weights.specs.Choices.{margin_of, IsAnswer}
use Rattle.search_arc_weights.proofs.SolvingWeights.{of_solved, pool_is, room_is, few_is}
use Rattle.search_arc_weights.proofs.WeighedLemmas.{past_is, answer_is}
use Rattle.search_arc_weights.proofs.weighed.weigh.Goals as goal

pub returns-in_default : goal.returns-in_default
returns-in_default c =
    let past : AreAllPast c.args.node.now.weights.now = c.in_default.ensures.past in
    past_is c.args.node.now.day.instance.now c.args.node.now.day.graph.now c.args.node.now.cuts.now c.args.node.now.pool.now c.args.node.now.weights.now c.requires.day.sound c.requires.day.graph c.requires.pool c.args.node.now.solution past c.requires.weights

pub arc_sums-requires-clause-pool : goal.arc_sums-requires-clause-pool
arc_sums-requires-clause-pool c =
    let r = of_solved c.args.node.now.day.instance.now c.args.node.now.cuts.now c.args.node.now.pool.now c.args.node.now.weights.now c.args.node.now.solution c.requires.weights in
    pool_is c.args.node.now.day.instance.now c.args.node.now.day.graph.now c.args.node.now.cuts.now c.args.node.now.pool.now c.args.node.now.weights.now c.requires.day.sound c.in-Some.d c.in-Some.ensures.common r

pub arc_sums-requires-clause-room : goal.arc_sums-requires-clause-room
arc_sums-requires-clause-room c =
    let r = of_solved c.args.node.now.day.instance.now c.args.node.now.cuts.now c.args.node.now.pool.now c.args.node.now.weights.now c.args.node.now.solution c.requires.weights in
    room_is c.args.node.now.day.instance.now c.args.node.now.day.graph.now c.args.node.now.cuts.now c.args.node.now.pool.now c.args.node.now.weights.now c.requires.day.sound c.in-Some.d c.in-Some.ensures.common r

pub conclude-requires-clause-fit : goal.conclude-requires-clause-fit
conclude-requires-clause-fit c =
    let e : c.as_slice.result.now ≡ c.in_ok-sums.sums.items = search rules in
    let r = of_solved c.args.node.now.day.instance.now c.args.node.now.cuts.now c.args.node.now.pool.now c.args.node.now.weights.now c.args.node.now.solution c.requires.weights in
    rw e record {
      some = c.in-Some.ensures.common.some;
      each = omega (arith, c.requires.left.made.arcs, c.in_ok-sums.ensures.each);
      few = few_is c.args.node.now.day.instance.now c.args.node.now.day.graph.now c.args.node.now.cuts.now c.args.node.now.pool.now c.args.node.now.weights.now c.requires.day.sound c.in-Some.d c.in-Some.ensures.common r c.in_ok-sums.sums.items c.in_ok-sums.ensures;
    }

if_ok : {A E : Type 0} (P Q : A → Type 0) (r : Result A E) → ((x : A) → P x → Q x) → IfOk r P → IfOk r Q
if_ok P Q (Ok x) f h = f x h
if_ok P Q (Err e) f h = h

pub returns : goal.returns
returns c =
    let e : c.as_slice.result.now ≡ c.in_ok-sums.sums.items = search rules in
    let h : IfOk c.conclude.result (IsAnswer c.args.node.now.arc_box.now.bounds c.in-Some.d (margin_of c.args.node.now.solution c.in-Some.d) c.in_ok-sums.sums.items) = rw e at c.conclude.ensures in
    if_ok _ _ c.conclude.result
    (answer_is c.args.node.now.day.instance.now c.args.node.now.day.graph.now c.args.node.now.cuts.now c.args.node.now.pool.now c.args.node.now.weights.now c.requires.day.sound c.requires.day.graph c.requires.pool c.in-Some.d c.in-Some.ensures.common c.in_ok-sums.sums.items c.in_ok-sums.ensures c.args.node.now.arc_box.now c.requires.left c.args.node.now.solution c.requires.weights) h
