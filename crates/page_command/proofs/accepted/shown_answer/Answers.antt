use Rattle.std.proofs.Common.{sym}
use Rattle.std.specs.Option.{option_copied}
use Rattle.page_views.specs.Shown as showing
use Rattle.page_command.proofs.ShownRosters.{roster-shown}
use Rattle.page_command.proofs.accepted.shown_answer.Goals as goal

pub returns-in-Some : goal.returns-in-Some
returns-in-Some c = showing.Showing.line_said c.in-Some.output (sym (rw c.in-Some.is at c.in_ok-line.ensures))

pub returns-in-None : goal.returns-in-None
returns-in-None c =
    roster-shown c.args.kind c.args.labels.now c.args.instance.now c.args.roster.now (option_copied c.args.old) c.drawn_answer.result (sym (rw c.in-None.is at c.in_ok-line.ensures)) c.drawn_answer.ensures
