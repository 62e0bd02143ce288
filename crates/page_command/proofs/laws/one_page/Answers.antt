use Rattle.page_command.proofs.OnceLemmas.{beside_texts_once, dated_once, labelled_once, page_once}
use Rattle.page_command.proofs.laws.one_page.Goals as goal

pub returns-clause-page : goal.returns-clause-page
returns-clause-page c = page_once

pub returns-clause-labelled : goal.returns-clause-labelled
returns-clause-labelled c = labelled_once

pub returns-clause-beside : goal.returns-clause-beside
returns-clause-beside c = beside_texts_once

pub returns-clause-calendar : goal.returns-clause-calendar
returns-clause-calendar c = dated_once
