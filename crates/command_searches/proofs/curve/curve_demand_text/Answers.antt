use Rattle.std.specs.Option.{option_copied}
use Rattle.command_searches.proofs.CurveAnswers.{demand-accepted, demand-refused}
use Rattle.command_searches.proofs.curve.curve_demand_text.Goals as goal

pub returns-in-Ok : goal.returns-in-Ok
returns-in-Ok g c = demand-accepted (option_copied c.args.group) c.args.proof.now _ c.args.limit _ _ _ c.args.grammar c.args.text.now c.in-Ok.instance c.in-Ok.ensures.value c.in-Ok.ensures.sound (rw c.note_day.ensures at c.curve_instance.ensures)

pub returns-in-Err : goal.returns-in-Err
returns-in-Err g c = demand-refused (option_copied c.args.group) c.args.proof.now _ c.args.limit _ _ _ c.args.grammar c.args.text.now c.in-Err.fault c.demand_refusal.result c.demand_refusal.ensures c.in-Err.ensures.value c.say_remarked.ensures
