use Rattle.std.specs.Option.{option_copied}
use Rattle.command_searches.proofs.Solves.{rules-accepted, rules-refused}
use Rattle.command_searches.proofs.solve.solve_rules_text.Goals as goal

pub returns-in-Ok : goal.returns-in-Ok
returns-in-Ok g c = rules-accepted c.args.proof.now _ _ _ (option_copied c.args.from) _ c.args.limit c.args.text.now c.args.demand.now c.in-Ok.grammar c.in-Ok.ensures.value c.in-Ok.ensures.sound c.solve_demand.ensures

pub returns-in-Err : goal.returns-in-Err
returns-in-Err g c = rules-refused c.args.proof.now _ _ _ (option_copied c.args.from) _ c.args.limit c.args.text.now c.args.demand.now c.in-Err.fault c.rules_refusal.result c.rules_refusal.ensures c.in-Err.ensures.value c.say_remarked.ensures
