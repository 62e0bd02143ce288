use Rattle.model_made_days.proofs.Draws.{add_cell}
use Rattle.model_made_days.proofs.made.add_demand.Goals as goal

pub loop-before-preserved : goal.loop-before-preserved
loop-before-preserved c =
    add_cell c.args.generator.now c.args.limit c.args.code c.args.under c.loop-before.before
    c.loop-before.generator c.draw.new.self c.draw.result c.args.cells.now c.loop-before.cells c.push.new.self
    c.loop-before.invariant.0 c.loop-before.invariant.1 c.draw.ensures.state c.draw.ensures.value
    c.in_ok-push.ensures.ok
