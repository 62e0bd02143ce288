use Rattle.page_command.proofs.DatedAnswers.{labels-read, labels-refused-said}
use Rattle.page_command.proofs.dated.calendar_answer.Goals as goal

pub returns-in-Ok : goal.returns-in-Ok
returns-in-Ok c =
    labels-read c.args.dated.now.day c.args.dated.now.labels.now c.in-Ok.labels c.args.instance.now c.args.text.now c.clock_answer.result (rw c.in-Ok.is at c.read_labels.ensures)
    c.clock_answer.ensures

pub returns-in-Err : goal.returns-in-Err
returns-in-Err c =
    labels-refused-said c.args.dated.now.day c.args.dated.now.labels.now c.args.instance.now c.args.text.now c.refused_labels.result c.refused_labels.ensures
