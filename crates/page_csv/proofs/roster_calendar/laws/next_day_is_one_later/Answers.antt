use Rattle.page_csv.proofs.roster_calendar.DayLemmas.{one_later}
use Rattle.page_csv.proofs.roster_calendar.laws.next_day_is_one_later.Goals as goal

pub returns : goal.returns
returns c = one_later
