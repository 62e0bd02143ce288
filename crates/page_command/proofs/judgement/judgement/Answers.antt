use Rattle.std.specs.Option.{option_copied}
use Rattle.page_command.proofs.Checks.{by-proof, by-report}
use Rattle.page_command.proofs.judgement.judgement.Goals as goal

pub returns-then-is_report : goal.returns-then-is_report
returns-then-is_report c =
    by-report c.args.kind c.args.labels.now (option_copied c.args.old) c.args.instance.now c.args.text.now c.report_answer.result (rw c.is_report.ensures at c.if-is_report.true) c.report_answer.ensures

pub returns-else-is_report : goal.returns-else-is_report
returns-else-is_report c =
    by-proof c.args.kind c.args.labels.now (option_copied c.args.old) c.args.instance.now c.args.text.now c.proof_answer.result (rw c.is_report.ensures at c.if-is_report.false) c.proof_answer.ensures
