use Rattle.command_texts.specs.Check.{Judgement}
use Rattle.command_texts.proofs.Checks.{proof-judged, proof-refused}
use Rattle.command_texts.proofs.check.judgement.Goals as goal

pub returns-in-Said : goal.returns-in-Said
returns-in-Said c = proof-judged c.args.instance.now c.args.text.now c.in-Said.verdict c.verdict_answer.result (rw c.in-Said.is at c.in_ok-verdict.ensures) c.verdict_answer.ensures

pub returns-in-Fault : goal.returns-in-Fault
returns-in-Fault c = proof-refused Judgement c.args.instance.now c.args.text.now c.in-Fault.fault c.proof_refusal.result (rw c.in-Fault.is at c.in_ok-verdict.ensures) c.proof_refusal.ensures
