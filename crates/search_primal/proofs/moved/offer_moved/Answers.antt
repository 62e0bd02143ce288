use Rattle.search_primal.proofs.ToolsLemmas.{same-better, more-found}
use Rattle.search_primal.proofs.moved.offer_moved.Goals as goal

pub offer_begun-offered-requires-clause-find : goal.offer_begun-offered-requires-clause-find
offer_begun-offered-requires-clause-find g c =
    let k = c.requires.find.tools.workspace in
    record {
      tools = record { pool = c.add_words.ensures.pool.are; workspace = record { pricing = record { pricer = c.add_words.ensures.pricer; room = k.pricing.room }; most = k.most; rosters = k.rosters; moves = k.moves } };
      good = c.requires.find.good;
    }

pub returns-in_err-begun : goal.returns-in_err-begun
returns-in_err-begun g c =
    let k = c.requires.find.tools.workspace in
    record {
      tools = record { pool = c.add_words.ensures.pool; workspace = record { pricing = record { pricer = c.add_words.ensures.pricer; room = k.pricing.room }; most = k.most; rosters = k.rosters; moves = k.moves } };
      better = same-better c.args.day.now.instance.now c.args.best.now c.requires.find.good;
    }

pub returns-in_default : goal.returns-in_default
returns-in_default g c =
    let k = c.requires.find.tools.workspace in
    record {
      tools = record { pool = c.add_words.ensures.pool; workspace = record { pricing = record { pricer = c.add_words.ensures.pricer; room = k.pricing.room }; most = k.most; rosters = k.rosters; moves = k.moves } };
      better = same-better c.args.day.now.instance.now c.args.best.now c.requires.find.good;
    }

pub returns : goal.returns
returns g c =
    let k = c.requires.find.tools.workspace in
    let d = c.args.day.now in
    let best = c.args.best.now in
    more-found d c.args.pool.now c.add_words.new.pool c.offer_begun-offered.new.pool (record c.args.workspace.now { pricing = record c.args.workspace.now.pricing { pricer = c.add_words.new.pricer } }) c.offer_begun-offered.new.workspace best best c.offer_begun-offered.new.best
    (record {
      tools = record { pool = c.add_words.ensures.pool; workspace = record { pricing = record { pricer = c.add_words.ensures.pricer; room = k.pricing.room }; most = k.most; rosters = k.rosters; moves = k.moves } };
      better = same-better d.instance.now best c.requires.find.good;
    }) c.offer_begun-offered.ensures
