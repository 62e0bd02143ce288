use Rattle.law_bounds.proofs.Pinned.{pinned-is}
use Rattle.law_bounds.proofs.laws.pinned_is_cost.Goals as goal

pub returns : goal.returns
returns c = λ i cuts v ts sound tight h roster meets. pinned-is i sound.grammar ts roster cuts tight meets v h
