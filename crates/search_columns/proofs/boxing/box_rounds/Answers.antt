use Rattle.std.proofs.Common.{refl}
use Rattle.search_columns.proofs.PoolGrowth.{generating_same, generating_chain}
use Rattle.search_columns.proofs.boxing.box_rounds.Goals as goal

pub loop-round-init : goal.loop-round-init
loop-round-init g c = generating_same _ _ _ _ _ refl refl c.requires

pub loop-round-preserved : goal.loop-round-preserved
loop-round-preserved g c = generating_chain _ _ _ _ _ _ _ _ _ refl refl c.loop-round.invariant c.in_ok-goes_on.ensures

pub returns-in_err-goes_on : goal.returns-in_err-goes_on
returns-in_err-goes_on g c = generating_chain _ _ _ _ _ _ _ _ _ refl refl c.loop-round.invariant c.in_err-goes_on.ensures

pub returns-then-not-goes_on : goal.returns-then-not-goes_on
returns-then-not-goes_on g c = generating_chain _ _ _ _ _ _ _ _ _ refl refl c.loop-round.invariant c.in_ok-goes_on.ensures

pub returns-then-is_over : goal.returns-then-is_over
returns-then-is_over g c = c.loop-round.invariant
