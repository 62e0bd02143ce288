use Rattle.search_dives.proofs.PoolGrowth.{stay-after}
use Rattle.search_dives.proofs.diving.step.Goals as goal

pub returns-clause-tools : goal.returns-clause-tools
returns-clause-tools g c = stay-after _ _ _ _ _ _ c.in_ok-solve.ensures.tools.grown c.fix_some.ensures.tools
