use Rattle.page_csv.proofs.roster_calendar.RowLemmas.{text_narrow}
use Rattle.page_csv.proofs.roster_calendar.laws.rows_are_narrow.Goals as goal

pub returns : goal.returns
returns c = text_narrow
