use Rattle.search_columns.proofs.PoolGrowth.{stay_chain}
use Rattle.search_columns.proofs.generating.generation_basis.Goals as goal

pub returns : goal.returns
returns g c = stay_chain _ _ _ _ _ _ c.in_ok-begun.ensures.tools c.generation_on-hint.ensures
