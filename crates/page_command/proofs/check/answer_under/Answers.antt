use Rattle.std.specs.Option.{option_copied}
use Rattle.page_command.proofs.Checks.{labels-read, labels-refused}
use Rattle.page_command.proofs.check.answer_under.Goals as goal

pub returns-in-Ok : goal.returns-in-Ok
returns-in-Ok c =
    labels-read c.args.kind c.in-Ok.said c.args.instance.now c.args.text.now c.args.labels.now (option_copied c.args.old) c.answer_with.result (rw c.in-Ok.is at c.read_labels.ensures) c.answer_with.ensures

pub returns-in-Err : goal.returns-in-Err
returns-in-Err c =
    labels-refused c.args.kind c.args.labels.now (option_copied c.args.old) c.args.instance.now c.args.text.now c.refused_labels.result c.refused_labels.ensures
