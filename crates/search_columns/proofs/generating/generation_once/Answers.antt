use Rattle.std.proofs.Common.{refl}
use Rattle.search_columns.proofs.PoolGrowth.{generating_chain}
use Rattle.search_columns.proofs.generating.generation_once.Goals as goal

pub returns : goal.returns
returns g c = generating_chain _ _ _ _ _ _ _ _ _ refl refl c.in_ok-end.ensures c.list_cheap.ensures
