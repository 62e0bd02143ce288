use Rattle.text_demand.proofs.CellLists.{push_more}
use Rattle.text_demand.proofs.cells.push_cells.Goals as goal

pub loop-place-preserved : goal.loop-place-preserved
loop-place-preserved c =
    push_more c.args.least.now c.args.most.now c.args.need.now c.args.cells.now c.loop-place.cells c.push.new.self c.loop-place.place 0
    (rw c.as_slice-count-items.ensures at c.loop-place-test.true) c.loop-place.invariant
    (rw (c.as_slice-count-items.ensures, c.bound_of.ensures, c.bound_of-in-loop-place.ensures) at c.in_ok-push.ensures.ok)
