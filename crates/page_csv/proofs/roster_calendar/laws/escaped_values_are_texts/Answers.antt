use Rattle.page_csv.proofs.roster_calendar.EscapeLemmas.{value_text}
use Rattle.page_csv.proofs.roster_calendar.laws.escaped_values_are_texts.Goals as goal

pub returns : goal.returns
returns c = value_text
