use Rattle.search_primal.proofs.OldLemmas.{offered-reaches}
use Rattle.search_primal.proofs.ToolsLemmas.{same-better}
use Rattle.search_primal.proofs.old_roster.offer_shifts.Goals as goal

pub returns-clause-reaches : goal.returns-clause-reaches
returns-clause-reaches c =
    offered-reaches c.args.instance.now c.args.shifts.now c.in_ok-found.found c.offer.new.best c.in_ok-found.ensures.roster.cost c.offer.ensures.least

pub returns-clause-offered : goal.returns-clause-offered
returns-clause-offered c = record { rosters = c.roster_again.ensures.workspace; better = c.offer.ensures.better }

pub returns-in_err-found-clause-offered : goal.returns-in_err-found-clause-offered
returns-in_err-found-clause-offered c = record { rosters = c.roster_again.ensures.workspace; better = same-better c.args.instance.now c.args.best.now c.requires.offer.good }
