use Rattle.plan_demand.proofs.DraftLemmas.{draft_is}
use Rattle.plan_demand.proofs.laws.draft_keeps_limits.Goals as goal

pub returns : goal.returns
returns c = draft_is
