use Rattle.page_command.proofs.Checks.{line-for-report, line-report-refused}
use Rattle.page_command.proofs.refused.line_for_report.Goals as goal

pub returns-in-Ok : goal.returns-in-Ok
returns-in-Ok c = line-for-report c.args.instance.now c.args.text.now c.args.line.now c.in-Ok.shifts c.line_said.result c.requires.report c.in-Ok.ensures.value c.line_said.ensures

pub returns-in-Err : goal.returns-in-Err
returns-in-Err c =
    line-report-refused c.args.instance.now c.args.text.now c.args.line.now c.in-Err.fault c.roster_refusal.result c.requires.report c.in-Err.ensures.value c.roster_refusal.ensures
