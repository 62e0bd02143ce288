use Rattle.command_answers.proofs.AskedLemmas.{rules-accepted, rules-refused}
use Rattle.command_answers.proofs.asking.ask_rules_text.Goals as goal

pub returns-in-Ok : goal.returns-in-Ok
returns-in-Ok g c = rules-accepted (g.Q.Question.answers c.args.question.now) _ _ _ c.args.text.now c.args.demand.now c.args.third.now c.in-Ok.grammar c.in-Ok.ensures.value c.in-Ok.ensures.sound c.ask_demand.ensures

pub returns-in-Err : goal.returns-in-Err
returns-in-Err g c = rules-refused (g.Q.Question.answers c.args.question.now) _ _ _ c.args.text.now c.args.demand.now c.args.third.now c.in-Err.fault c.rules_refusal.result c.rules_refusal.ensures c.in-Err.ensures.value c.say_remarked.ensures
