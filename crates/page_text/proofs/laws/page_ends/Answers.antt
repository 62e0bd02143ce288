use Rattle.page_text.proofs.PageEnd.{page_ends}
use Rattle.page_text.proofs.laws.page_ends.Goals as goal

pub returns : goal.returns
returns c = page_ends
