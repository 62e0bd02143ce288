use Rattle.search_primal.proofs.ToolsLemmas.{empty-pool, same-better}
use Rattle.search_primal.proofs.first.offer_first.Goals as goal

pub offer_begun-offered-requires-clause-find : goal.offer_begun-offered-requires-clause-find
offer_begun-offered-requires-clause-find g c =
    let k = c.requires.workspace in
    record {
      tools = record { pool = empty-pool c.args.day.now c.new-pool.result c.new-pool.ensures; workspace = record { pricing = k.pricing; most = k.most; rosters = k.rosters; moves = k.moves } };
      good = c.requires.good;
    }

pub returns : goal.returns
returns g c = record { workspace = c.offer_begun-offered.ensures.tools.workspace; better = c.offer_begun-offered.ensures.better }

pub returns-in_err-prices : goal.returns-in_err-prices
returns-in_err-prices g c =
    let k = c.requires.workspace in
    record { workspace = record { pricing = k.pricing; most = k.most; rosters = k.rosters; moves = k.moves }; better = same-better c.args.day.now.instance.now c.args.best.now c.requires.good }
