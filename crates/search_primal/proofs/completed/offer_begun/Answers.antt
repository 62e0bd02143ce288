use Rattle.search_primal.proofs.ToolsLemmas.{same-better}
use Rattle.search_primal.proofs.completed.offer_begun.Goals as goal

pub offer_trees-requires-clause-offer : goal.offer_trees-requires-clause-offer
offer_trees-requires-clause-offer g c = record { rosters = c.requires.find.tools.workspace.rosters; good = c.requires.find.good }

pub returns-in_err-columns : goal.returns-in_err-columns
returns-in_err-columns g c =
    let k = c.requires.find.tools.workspace in
    record {
      tools = record { pool = c.complete.ensures.pool; workspace = record { pricing = k.pricing; most = k.most; rosters = k.rosters; moves = c.complete.ensures.pricing } };
      better = same-better c.args.day.now.instance.now c.args.best.now c.requires.find.good;
    }

pub returns : goal.returns
returns g c =
    let k = c.requires.find.tools.workspace in
    record {
      tools = record { pool = c.complete.ensures.pool; workspace = record { pricing = k.pricing; most = k.most; rosters = c.offer_trees.ensures.rosters; moves = c.complete.ensures.pricing } };
      better = c.offer_trees.ensures.better;
    }
