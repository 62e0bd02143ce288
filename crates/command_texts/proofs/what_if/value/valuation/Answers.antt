use Rattle.command_texts.proofs.what_if.Values.{valued, roster-refused}
use Rattle.command_texts.proofs.what_if.value.valuation.Goals as goal

pub returns-in-Ok : goal.returns-in-Ok
returns-in-Ok c = valued c.args.instance.now c.args.text.now c.in-Ok.shifts c.value_of.result c.in-Ok.ensures.value (rw c.as_slice.ensures at c.value_of.ensures)

pub returns-in-Err : goal.returns-in-Err
returns-in-Err c = roster-refused c.args.instance.now c.args.text.now c.in-Err.fault c.roster_refusal.result c.in-Err.ensures.value c.roster_refusal.ensures
