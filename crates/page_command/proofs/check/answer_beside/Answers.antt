use Rattle.page_command.proofs.Checks.{old-read, old-refused}
use Rattle.page_command.proofs.check.answer_beside.Goals as goal

pub returns-in-Ok : goal.returns-in-Ok
returns-in-Ok c =
    old-read c.args.kind c.args.labels.now c.args.instance.now c.args.text.now c.args.old.now c.in-Ok.shifts c.judgement.result c.in-Ok.ensures.value (rw c.as_slice.ensures at c.judgement.ensures)

pub returns-in-Err : goal.returns-in-Err
returns-in-Err c = old-refused c.args.kind c.args.labels.now c.args.instance.now c.args.text.now c.args.old.now c.refused_old.result c.refused_old.ensures

pub judgement-requires-clause-old : goal.judgement-requires-clause-old
judgement-requires-clause-old c = rw c.as_slice.ensures c.in-Ok.ensures.sound
