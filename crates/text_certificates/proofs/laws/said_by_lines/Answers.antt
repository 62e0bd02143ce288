use Rattle.text_certificates.proofs.SaysLemmas.{says, said}
use Rattle.text_certificates.proofs.laws.said_by_lines.Goals as goal

pub returns : goal.returns
returns c = λ i text cert s. (says i text cert s, said i text cert s)
