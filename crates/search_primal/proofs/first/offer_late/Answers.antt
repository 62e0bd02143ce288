use Rattle.search_primal.proofs.ToolsLemmas.{same-better}
use Rattle.search_primal.proofs.first.offer_late.Goals as goal

pub returns-then-processed-gt0 : goal.returns-then-processed-gt0
returns-then-processed-gt0 g c = record { workspace = c.requires.workspace; better = same-better c.args.day.now.instance.now c.args.best.now c.requires.good }
