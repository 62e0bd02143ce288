use Rattle.command_answers.proofs.SaysLemmas.{asks-cert}
use Rattle.command_searches.specs.Reuse.{Reusing}
use Rattle.command_searches.proofs.reuse.reuse.Goals as goal

pub returns : goal.returns
returns g c = asks-cert Reusing c.args.rules.now c.args.demand.now c.args.proof.now _ _ c.ask.result c.ask.ensures
