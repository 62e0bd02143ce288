use Rattle.std.specs.Option.{option_copied}
use Rattle.page_command.specs.Judgement.{Judgement}
use Rattle.page_command.proofs.Checks.{proof-drawn, proof-refused-why, yes-accepted}
use Rattle.command_texts.proofs.Checks.{proof-refused}
use Rattle.page_command.proofs.judgement.proof_answer.Goals as goal

pub accepted_answer-requires-clause-accepted : goal.accepted_answer-requires-clause-accepted
accepted_answer-requires-clause-accepted c =
    yes-accepted c.args.instance.now c.args.text.now c.in-Said-Yes.field-0-0 c.in-Said-Yes.field-0-1 (rw (c.in-Said-Yes.is, c.in-Said-Yes.field-0-is) at c.in_ok-judged.ensures)

pub returns-in-Said-Yes : goal.returns-in-Said-Yes
returns-in-Said-Yes c =
    proof-drawn c.args.kind c.args.labels.now (option_copied c.args.old) c.args.instance.now c.args.text.now c.in-Said-Yes.field-0-0 c.in-Said-Yes.field-0-1 c.accepted_answer.result
    (rw (c.in-Said-Yes.is, c.in-Said-Yes.field-0-is) at c.in_ok-judged.ensures) c.accepted_answer.ensures

pub returns-in-Said-No : goal.returns-in-Said-No
returns-in-Said-No c =
    proof-refused-why c.args.kind c.args.labels.now (option_copied c.args.old) c.args.instance.now c.args.text.now c.in-Said-No.why c.no_answer.result
    (rw (c.in-Said-No.is, c.in-Said-No.field-0-is) at c.in_ok-judged.ensures) c.no_answer.ensures

pub returns-in-Fault : goal.returns-in-Fault
returns-in-Fault c =
    proof-refused (Judgement c.args.kind c.args.labels.now (option_copied c.args.old)) c.args.instance.now c.args.text.now c.in-Fault.fault c.proof_refusal.result (rw c.in-Fault.is at c.in_ok-judged.ensures)
    c.proof_refusal.ensures
