use Rattle.search_primal.proofs.ToolsLemmas.{same-better}
use Rattle.search_primal.proofs.first.offer_early.Goals as goal

pub returns-then-has_old : goal.returns-then-has_old
returns-then-has_old g c = record { workspace = c.requires.workspace; better = same-better c.args.day.now.instance.now c.args.best.now c.requires.good }
