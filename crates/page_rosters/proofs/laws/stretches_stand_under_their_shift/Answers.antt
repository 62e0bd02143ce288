use Rattle.page_rosters.proofs.ShiftLawLemmas.{stretch_lines}
use Rattle.page_rosters.proofs.laws.stretches_stand_under_their_shift.Goals as goal

pub returns : goal.returns
returns c = stretch_lines
