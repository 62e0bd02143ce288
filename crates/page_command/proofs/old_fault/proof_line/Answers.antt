use Rattle.page_command.proofs.OldLemmas.{proof-long, proof-renamed}
use Rattle.page_command.proofs.old_fault.proof_line.Goals as goal

pub renamed-requires : goal.renamed-requires
renamed-requires c = rw (c.as_slice.ensures, c.in_ok-line.ensures) (proof-long c.args.fault.now)

pub returns : goal.returns
returns c = rw (c.as_slice.ensures, c.in_ok-line.ensures, proof-renamed c.args.fault.now) at c.renamed.ensures
