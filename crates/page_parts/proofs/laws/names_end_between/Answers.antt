use Rattle.page_parts.proofs.NameLemmas.{ends_between}
use Rattle.page_parts.proofs.laws.names_end_between.Goals as goal

pub returns : goal.returns
returns c = ends_between
