use Rattle.std.specs.Option.{option_copied}
use Rattle.command_searches.proofs.Solves.{demand-accepted, demand-refused}
use Rattle.command_searches.proofs.solve.solve_demand_text.Goals as goal

pub returns-in-Ok : goal.returns-in-Ok
returns-in-Ok g c = demand-accepted c.args.proof.now _ _ _ (option_copied c.args.from) _ c.args.limit c.args.grammar c.args.text.now c.in-Ok.instance c.in-Ok.ensures.value c.in-Ok.ensures.sound (rw c.note_day.ensures at c.solve_from.ensures)

pub returns-in-Err : goal.returns-in-Err
returns-in-Err g c = demand-refused c.args.proof.now _ _ _ (option_copied c.args.from) _ c.args.limit c.args.grammar c.args.text.now c.in-Err.fault c.demand_refusal.result c.demand_refusal.ensures c.in-Err.ensures.value c.say_remarked.ensures
