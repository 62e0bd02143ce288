use Rattle.page_labels.proofs.ShiftLemmas.{stand_all}
use Rattle.page_labels.proofs.laws.names_stand_at_their_shifts.Goals as goal

pub returns : goal.returns
returns c = stand_all
