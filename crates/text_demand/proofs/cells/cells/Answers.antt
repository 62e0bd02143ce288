use Rattle.text_demand.specs.InstanceOf.{demand_of}
use Rattle.text_demand.proofs.CellLists.{line_more}
use Rattle.text_demand.proofs.cells.cells.Goals as goal

pub loop-need-preserved : goal.loop-need-preserved
loop-need-preserved c =
    line_more (demand_of c.args.least.now c.args.most.now) c.args.needs.now c.loop-need.need-index c.need-item.result c.loop-need.cells c.push_cells.new.cells
    c.loop-need-test.true c.need-item.is c.loop-need.invariant c.in_ok-push_cells.ensures
