use Rattle.std.proofs.Common.{rules, ◌≡◌, ℕ, List, length, drop, take, ◌++◌, ◌+◌, ap, sym, subst, ◌∙◌}
use Rattle.std.proofs.Math.Seq.{take-append_seam}
use Rattle.std.proofs.Math.ListN.{drop_of_length-le}
use Rattle.search_arc_weights.specs.Loops.{AreSummedBefore}
use Rattle.search_arc_weights.proofs.Steps.{cons_at}
use Rattle.search_arc_weights.proofs.SumsLemmas.{room_left, next_summed, all_summed}
use Rattle.search_arc_weights.proofs.sums.arc_sums.Goals as goal

-- a list of the same length is written back whole
taken-all : (new old : List ℕ) (n : ℕ) → n ≡ length new → new ≡ take n (new ++ drop (length new) old)
taken-all new old n e = sym (ap (λ (k : ℕ). take k (new ++ drop (length new) old)) e ∙ take-append_seam new (drop (length new) old))

pub add_arcs-requires-clause-room : goal.add_arcs-requires-clause-room
add_arcs-requires-clause-room c =
    let at = cons_at c.args.weights.now c.loop-weight.weight-index c.weight-item.result c.loop-weight-test.true c.weight-item.is in
    rw (c.as_mut_slice.ensures.value, c.units.ensures)
    (room_left c.args.d c.args.graph.now.arcs c.args.pool.now c.args.weights.now c.loop-weight.weight-index c.loop-weight.sums.items c.weight-item.result at c.loop-weight.invariant c.arcs-arcs.result.now c.arcs-arcs.ensures c.requires.room)

pub loop-weight-preserved : goal.loop-weight-preserved
loop-weight-preserved c =
    let at = cons_at c.args.weights.now c.loop-weight.weight-index c.weight-item.result c.loop-weight-test.true c.weight-item.is in
    let e : length c.add_arcs.new.sums ≡ length c.loop-weight.sums.items = search rules in
    let n : c.loop-weight.sums.len ≡ length c.add_arcs.new.sums = search rules in
    let added = rw (c.as_mut_slice.ensures.value, c.units.ensures) at c.add_arcs.ensures.sums in
    subst (λ (xs : List ℕ). AreSummedBefore c.args.d c.args.graph.now.arcs c.args.pool.now c.args.weights.now (c.loop-weight.weight-index + 1) xs) (taken-all c.add_arcs.new.sums c.loop-weight.sums.items c.loop-weight.sums.len n)
    (next_summed c.args.d c.args.graph.now.arcs c.args.pool.now c.args.weights.now c.loop-weight.weight-index c.loop-weight.sums.items c.weight-item.result at c.loop-weight.invariant c.arcs-arcs.result.now c.arcs-arcs.ensures c.add_arcs.new.sums e added)

pub returns : goal.returns
returns c = all_summed c.args.d c.args.graph.now.arcs c.args.pool.now c.args.weights.now c.loop-weight.weight-index c.loop-weight.sums.items (drop_of_length-le c.args.weights.now c.loop-weight-test.false) c.loop-weight.invariant
