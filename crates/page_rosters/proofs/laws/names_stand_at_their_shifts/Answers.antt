use Rattle.page_rosters.proofs.ShiftLawLemmas.{named_lines}
use Rattle.page_rosters.proofs.laws.names_stand_at_their_shifts.Goals as goal

pub returns : goal.returns
returns c = named_lines
