use Rattle.page_tables.proofs.TableMarks.{tables_same}
use Rattle.page_tables.proofs.laws.marks_stay.Goals as goal

pub returns : goal.returns
returns c = tables_same
