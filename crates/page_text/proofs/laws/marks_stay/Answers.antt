use Rattle.page_text.proofs.MarkLemmas.{body_same, page_same}
use Rattle.page_text.proofs.laws.marks_stay.Goals as goal

pub returns-clause-on_a_sheet : goal.returns-clause-on_a_sheet
returns-clause-on_a_sheet c = body_same

pub returns-clause-on_the_page : goal.returns-clause-on_the_page
returns-clause-on_the_page c = page_same
