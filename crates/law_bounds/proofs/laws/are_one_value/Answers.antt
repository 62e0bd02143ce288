use Rattle.law_bounds.proofs.OneValue.{one-lagrangian, one-priced, one-pinned, one-points}
use Rattle.law_bounds.proofs.laws.are_one_value.Goals as goal

pub returns : goal.returns
returns c = record { lagrangian = one-lagrangian; priced = one-priced; pinned = one-pinned; points = one-points }
