use Rattle.page_command.proofs.Checks.{line-for-proof, line-proof-refused}
use Rattle.page_command.proofs.refused.line_for_proof.Goals as goal

pub returns-in-Said : goal.returns-in-Said
returns-in-Said c =
    line-for-proof c.args.instance.now c.args.text.now c.args.line.now c.in-Said.field-0 c.line_said.result c.requires.proof (rw c.in-Said.is at c.in_ok-judged.ensures) c.line_said.ensures

pub returns-in-Fault : goal.returns-in-Fault
returns-in-Fault c =
    line-proof-refused c.args.instance.now c.args.text.now c.args.line.now c.in-Fault.fault c.proof_refusal.result c.requires.proof (rw c.in-Fault.is at c.in_ok-judged.ensures) c.proof_refusal.ensures
