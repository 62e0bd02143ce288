use Rattle.text_relaxed_days.proofs.FreeTrees.{shifts-are-free}
use Rattle.text_relaxed_days.proofs.laws.shifts_are_free.Goals as goal

pub returns : goal.returns
returns c = shifts-are-free
