use Rattle.page_csv.proofs.roster_calendar.FoldLemmas.{lines_back}
use Rattle.page_csv.proofs.roster_calendar.laws.unfolding_gives_lines_back.Goals as goal

pub returns : goal.returns
returns c = lines_back
