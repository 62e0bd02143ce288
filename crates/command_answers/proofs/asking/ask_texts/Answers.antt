use Rattle.command_answers.proofs.AskedLemmas.{texts-accepted, texts-refused}
use Rattle.command_answers.proofs.asking.ask_texts.Goals as goal

pub returns-in-Ok : goal.returns-in-Ok
returns-in-Ok g c = texts-accepted (g.Q.Question.answers c.args.question.now) _ _ _ c.args.rules.now c.args.demand.now c.args.third.now c.in-Ok.grammar c.in-Ok.ensures.value c.in-Ok.ensures.sound c.ask_demand_text.ensures

pub returns-in-Err : goal.returns-in-Err
returns-in-Err g c = texts-refused (g.Q.Question.answers c.args.question.now) _ _ _ c.args.rules.now c.args.demand.now c.args.third.now c.in-Err.fault c.rules_refusal.result c.rules_refusal.ensures c.in-Err.ensures.value c.say_remarked.ensures
