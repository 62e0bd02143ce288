use Rattle.search_dives.proofs.PoolGrowth.{stay-after}
use Rattle.search_dives.proofs.fixing.fix_some.Goals as goal

pub returns-in_err-more-clause-tools : goal.returns-in_err-more-clause-tools
returns-in_err-more-clause-tools c = stay-after _ _ _ _ _ _ c.loop.invariant.tools.grown c.in_err-more.ensures.tools

pub returns-in_default-clause-tools : goal.returns-in_default-clause-tools
returns-in_default-clause-tools c = stay-after _ _ _ _ _ _ c.loop.invariant.tools.grown c.in_ok-more.ensures.tools

pub loop-preserved : goal.loop-preserved
loop-preserved c = record {
  program = c.in_ok-more.ensures.program;
  tools = stay-after _ _ _ _ _ _ c.loop.invariant.tools.grown c.in_ok-more.ensures.tools;
}
