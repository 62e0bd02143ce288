use Rattle.search_primal.proofs.ToolsLemmas.{same-better, more-found}
use Rattle.search_primal.proofs.completed.offer_dived.Goals as goal

pub offer_begun-requires-clause-find : goal.offer_begun-requires-clause-find
offer_begun-requires-clause-find g c =
    let k = c.requires.find.tools.workspace in
    record {
      tools = record { pool = c.dive.ensures.pool.are; workspace = record { pricing = k.pricing; most = k.most; rosters = k.rosters; moves = record { short = c.dive.ensures.order; room = k.moves.room } } };
      good = c.requires.find.good;
    }

pub returns-in_err-offer_begun : goal.returns-in_err-offer_begun
returns-in_err-offer_begun g c =
    let k = c.requires.find.tools.workspace in
    let d = c.args.node.now.searched.day in
    let best = c.args.best.now in
    more-found d c.args.pool.now c.dive.new.pool c.offer_begun.new.pool (record c.args.workspace.now { moves = record c.args.workspace.now.moves { short = c.dive.new.order } }) c.offer_begun.new.workspace best best c.offer_begun.new.best
    (record {
      tools = record { pool = c.dive.ensures.pool; workspace = record { pricing = k.pricing; most = k.most; rosters = k.rosters; moves = record { short = c.dive.ensures.order; room = k.moves.room } } };
      better = same-better d.instance.now best c.requires.find.good;
    }) c.offer_begun.ensures

pub returns-in_err-found : goal.returns-in_err-found
returns-in_err-found g c =
    let k = c.requires.find.tools.workspace in
    record {
      tools = record { pool = c.dive.ensures.pool; workspace = record { pricing = k.pricing; most = k.most; rosters = k.rosters; moves = record { short = c.dive.ensures.order; room = k.moves.room } } };
      better = same-better c.args.node.now.searched.day.instance.now c.args.best.now c.requires.find.good;
    }

pub returns-in_default : goal.returns-in_default
returns-in_default g c =
    let k = c.requires.find.tools.workspace in
    record {
      tools = record { pool = c.dive.ensures.pool; workspace = record { pricing = k.pricing; most = k.most; rosters = k.rosters; moves = record { short = c.dive.ensures.order; room = k.moves.room } } };
      better = same-better c.args.node.now.searched.day.instance.now c.args.best.now c.requires.find.good;
    }

pub returns-then-is_empty : goal.returns-then-is_empty
returns-then-is_empty g c =
    let k = c.requires.find.tools.workspace in
    record {
      tools = record { pool = c.dive.ensures.pool; workspace = record { pricing = k.pricing; most = k.most; rosters = k.rosters; moves = record { short = c.dive.ensures.order; room = k.moves.room } } };
      better = same-better c.args.node.now.searched.day.instance.now c.args.best.now c.requires.find.good;
    }

pub returns : goal.returns
returns g c =
    let k = c.requires.find.tools.workspace in
    let d = c.args.node.now.searched.day in
    let best = c.args.best.now in
    more-found d c.args.pool.now c.dive.new.pool c.offer_begun.new.pool (record c.args.workspace.now { moves = record c.args.workspace.now.moves { short = c.dive.new.order } }) c.offer_begun.new.workspace best best c.offer_begun.new.best
    (record {
      tools = record { pool = c.dive.ensures.pool; workspace = record { pricing = k.pricing; most = k.most; rosters = k.rosters; moves = record { short = c.dive.ensures.order; room = k.moves.room } } };
      better = same-better d.instance.now best c.requires.find.good;
    }) c.offer_begun.ensures
