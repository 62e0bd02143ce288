use Rattle.command_answers.specs.Asked as check
use Rattle.command_searches.specs.Reuse.{Reusing}
use Rattle.command_answers.proofs.AskedLemmas.{text-refused}
use Rattle.command_answers.proofs.Readers.{IfOk-map}
use Rattle.command_searches.proofs.reuse.reusing.Goals as goal

pub returns-in-Ok : goal.returns-in-Ok
returns-in-Ok c = IfOk-map _ _ _ (λ a h. check.ProofAnswers.accepted c.in-Ok.cert a.status a.output c.in-Ok.ensures.value h) c.reused.ensures

pub returns-in-Err : goal.returns-in-Err
returns-in-Err c = text-refused Reusing c.args.instance.now c.args.text.now c.in-Err.fault c.text_refusal.result c.in-Err.ensures.value c.text_refusal.ensures
