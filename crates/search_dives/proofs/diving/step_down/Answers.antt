use Rattle.search_dives.proofs.PoolGrowth.{stay-after}
use Rattle.search_dives.proofs.diving.step_down.Goals as goal

pub returns-in_err-step-clause-tools : goal.returns-in_err-step-clause-tools
returns-in_err-step-clause-tools g c = stay-after _ _ _ _ _ _ c.loop.invariant.tools.grown c.in_err-step.ensures.tools

pub returns-then-not-branch-clause-tools : goal.returns-then-not-branch-clause-tools
returns-then-not-branch-clause-tools g c = stay-after _ _ _ _ _ _ c.loop.invariant.tools.grown c.in_ok-step.ensures.tools

pub loop-preserved : goal.loop-preserved
loop-preserved g c = record {
  program = c.in_ok-step.ensures.program;
  tools = stay-after _ _ _ _ _ _ c.loop.invariant.tools.grown c.in_ok-step.ensures.tools;
}
