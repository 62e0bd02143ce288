use Rattle.page_command.proofs.DatedAnswers.{clock-told, no-clock-told}
use Rattle.page_command.proofs.dated.clock_answer.Goals as goal

pub returns-in-None : goal.returns-in-None
returns-in-None c =
    no-clock-told c.args.day c.args.labels.now c.args.instance.now c.args.text.now c.line_answer.result c.in-None.is c.line_answer.ensures

pub returns-in-Some : goal.returns-in-Some
returns-in-Some c =
    clock-told c.args.day c.args.labels.now c.in-Some.clock c.args.instance.now c.args.text.now c.judgement.result c.in-Some.is c.judgement.ensures
