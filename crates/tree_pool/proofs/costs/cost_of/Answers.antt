use Rattle.std.proofs.Common.{arith}
use Rattle.model_rosters.specs.declared.grammar.Step.{Step}
use Rattle.tree_pool.specs.Costs.{step_cost}
use Rattle.tree_pool.proofs.CostsLemmas.{cost_more}
use Rattle.tree_pool.proofs.costs.cost_of.Goals as goal

pub loop-step-preserved : goal.loop-step-preserved
loop-step-preserved c =
    let d : Step = record { rule = 0; start = 0; len = 0 } in
    let more = cost_more (step_cost c.args.grammar.now) c.args.steps.now c.loop-step.step-index d c.loop-step-test.true in
    let own = c.step_cost-cost.ensures.cost in
    record {
      sum = omega (arith, more, own, c.loop-step.invariant.sum);
      small = omega (arith, c.loop-step.invariant.small, c.step_cost-cost.ensures.small);
    }
