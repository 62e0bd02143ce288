use Rattle.command_texts.proofs.what_if.Rests.{rested, kept-refused}
use Rattle.command_texts.proofs.what_if.rest.resting.Goals as goal

pub returns-in-Ok : goal.returns-in-Ok
returns-in-Ok c = rested c.args.instance.now c.args.text.now c.in-Ok.kept c.rest_of.result c.in-Ok.ensures.value (rw c.as_slice.ensures at c.rest_of.ensures)

pub returns-in-Err : goal.returns-in-Err
returns-in-Err c = kept-refused c.args.instance.now c.args.text.now c.in-Err.fault c.roster_refusal.result c.in-Err.ensures.value c.roster_refusal.ensures
