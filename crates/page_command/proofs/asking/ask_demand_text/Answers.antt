use Rattle.command_answers.proofs.AskedLemmas.{demand-accepted, demand-refused}
use Rattle.page_command.proofs.asking.ask_demand_text.Goals as goal

pub returns-in-Ok : goal.returns-in-Ok
returns-in-Ok g c = demand-accepted (g.Q.Question.answers c.args.question.now) _ _ _ c.args.grammar c.args.text.now c.args.third.now c.in-Ok.instance c.in-Ok.ensures.value c.in-Ok.ensures.sound c.ask_third.ensures

pub returns-in-Err : goal.returns-in-Err
returns-in-Err g c = demand-refused (g.Q.Question.answers c.args.question.now) _ _ _ c.args.grammar c.args.text.now c.args.third.now c.in-Err.fault c.demand_refusal.result c.demand_refusal.ensures c.in-Err.ensures.value c.say_remarked.ensures
