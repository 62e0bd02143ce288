use Rattle.std.specs.Option.{option_copied}
use Rattle.page_command.proofs.Checks.{report-read, report-refused}
use Rattle.page_command.proofs.report.report_answer.Goals as goal

pub returns-in-Ok : goal.returns-in-Ok
returns-in-Ok c =
    report-read c.args.kind c.args.labels.now (option_copied c.args.old) c.args.instance.now c.args.text.now c.in-Ok.shifts c.stated_answer.result c.in-Ok.ensures.value (rw c.as_slice.ensures at c.stated_answer.ensures)

pub returns-in-Err : goal.returns-in-Err
returns-in-Err c =
    report-refused c.args.kind c.args.labels.now (option_copied c.args.old) c.args.instance.now c.args.text.now c.in-Err.fault c.roster_refusal.result c.in-Err.ensures.value c.roster_refusal.ensures
