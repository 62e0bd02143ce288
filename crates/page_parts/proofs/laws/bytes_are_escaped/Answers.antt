use Rattle.page_parts.proofs.EscapeLemmas.{are_escaped}
use Rattle.page_parts.proofs.laws.bytes_are_escaped.Goals as goal

pub returns : goal.returns
returns c = are_escaped
