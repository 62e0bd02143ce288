use Rattle.std.proofs.Common.{refl}
use Rattle.search_columns.proofs.PoolGrowth.{generating_same, generating_chain}
use Rattle.search_columns.proofs.asking.ask_all.Goals as goal

pub loop-weight-init : goal.loop-weight-init
loop-weight-init c = generating_same _ _ _ _ _ refl refl c.requires

pub loop-weight-preserved : goal.loop-weight-preserved
loop-weight-preserved c = generating_chain _ _ _ _ _ _ _ _ _ refl refl c.loop-weight.invariant c.in_ok-_is_cheap.ensures

pub returns-in_err-_is_cheap : goal.returns-in_err-_is_cheap
returns-in_err-_is_cheap c = generating_chain _ _ _ _ _ _ _ _ _ refl refl c.loop-weight.invariant c.in_err-_is_cheap.ensures
