use Rattle.page_csv.proofs.roster_calendar.RowLemmas.{text_whole}
use Rattle.page_csv.proofs.roster_calendar.laws.folds_stand_before_characters.Goals as goal

pub returns : goal.returns
returns c = text_whole
