use Rattle.std.specs.Option.{option_copied}
use Rattle.page_command.proofs.Checks.{stated-allowed, stated-refused}
use Rattle.page_command.proofs.ShownRosters.{sound-stated}
use Rattle.page_command.proofs.report.stated_answer.Goals as goal

pub judge-requires-clause-shifts : goal.judge-requires-clause-shifts
judge-requires-clause-shifts c = record { few = c.requires.shifts.few; each = c.requires.shifts.each }

pub shown_answer-requires-clause-roster : goal.shown_answer-requires-clause-roster
shown_answer-requires-clause-roster c =
    rw c.stated-roster.ensures (sound-stated c.args.instance.now c.args.shifts.now c.in-Allowed.value (rw c.in-Allowed.is at c.in_ok-value.ensures))

pub returns-in-Allowed : goal.returns-in-Allowed
returns-in-Allowed c =
    stated-allowed c.args.kind c.args.labels.now (option_copied c.args.old) c.args.instance.now c.args.shifts.now c.in-Allowed.value c.shown_answer.result (rw c.in-Allowed.is at c.in_ok-value.ensures)
    (rw c.stated-roster.ensures at c.shown_answer.ensures)

pub returns : goal.returns
returns c =
    stated-refused c.args.kind c.args.labels.now (option_copied c.args.old) c.args.instance.now c.args.shifts.now c.in-Refused.field-0 c.value_of.result (rw c.in-Refused.is at c.in_ok-value.ensures) c.value_of.ensures
