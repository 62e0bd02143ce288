use Rattle.search_dives.proofs.PoolGrowth.{stay-after}
use Rattle.search_dives.proofs.diving.solve.Goals as goal

pub returns-in_err-is_cheap-clause-tools : goal.returns-in_err-is_cheap-clause-tools
returns-in_err-is_cheap-clause-tools g c = stay-after _ _ _ _ _ _ c.loop.invariant.tools.grown c.in_err-is_cheap.ensures.tools

pub returns-then-not-is_cheap-clause-tools : goal.returns-then-not-is_cheap-clause-tools
returns-then-not-is_cheap-clause-tools g c = stay-after _ _ _ _ _ _ c.loop.invariant.tools.grown c.in_ok-is_cheap.ensures.tools

pub loop-preserved : goal.loop-preserved
loop-preserved g c = record {
  program = c.in_ok-is_cheap.ensures.program;
  tools = stay-after _ _ _ _ _ _ c.loop.invariant.tools.grown c.in_ok-is_cheap.ensures.tools;
}
