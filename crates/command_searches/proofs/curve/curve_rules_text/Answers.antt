use Rattle.std.specs.Option.{option_copied}
use Rattle.command_searches.proofs.CurveAnswers.{rules-accepted, rules-refused}
use Rattle.command_searches.proofs.curve.curve_rules_text.Goals as goal

pub returns-in-Ok : goal.returns-in-Ok
returns-in-Ok g c = rules-accepted (option_copied c.args.group) c.args.proof.now _ c.args.limit _ _ _ c.args.text.now c.args.demand.now c.in-Ok.grammar c.in-Ok.ensures.value c.in-Ok.ensures.sound c.curve_demand.ensures

pub returns-in-Err : goal.returns-in-Err
returns-in-Err g c = rules-refused (option_copied c.args.group) c.args.proof.now _ c.args.limit _ _ _ c.args.text.now c.args.demand.now c.in-Err.fault c.rules_refusal.result c.rules_refusal.ensures c.in-Err.ensures.value c.say_remarked.ensures
