use Rattle.search_dives.proofs.PoolGrowth.{stay-after}
use Rattle.search_dives.proofs.asking.ask.Goals as goal

pub returns-in_err-list_others-clause-tools : goal.returns-in_err-list_others-clause-tools
returns-in_err-list_others-clause-tools c = stay-after _ _ _ _ _ _ c.pooled.ensures.pool.grown c.in_err-list_others.ensures.tools

pub returns-clause-tools : goal.returns-clause-tools
returns-clause-tools c = stay-after _ _ _ _ _ _ c.pooled.ensures.pool.grown c.in_ok-list_others.ensures.tools
