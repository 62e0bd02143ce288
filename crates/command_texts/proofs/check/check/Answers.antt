use Rattle.command_answers.proofs.SaysLemmas.{asks-cert}
use Rattle.command_texts.specs.Check.{Judgement}
use Rattle.command_texts.proofs.check.check.Goals as goal

pub returns : goal.returns
returns g c = asks-cert Judgement c.args.rules.now c.args.demand.now c.args.proof.now _ _ c.ask.result c.ask.ensures
