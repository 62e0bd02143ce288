use Rattle.page_csv.proofs.roster_calendar.EscapeLemmas.{value_back}
use Rattle.page_csv.proofs.roster_calendar.laws.unescaping_gives_value_back.Goals as goal

pub returns : goal.returns
returns c = value_back
