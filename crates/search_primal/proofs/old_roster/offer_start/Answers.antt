use Rattle.std.proofs.Common.{[], sym}
use Rattle.std.proofs.lemmas.List.{append-nil}
use Rattle.search_primal.proofs.old_roster.offer_start.Goals as goal

pub offer_shifts-requires-clause-offer : goal.offer_shifts-requires-clause-offer
offer_shifts-requires-clause-offer c = record { rosters = c.requires.find.tools.workspace.rosters; good = c.requires.find.good }

pub returns-clause-found : goal.returns-clause-found
returns-clause-found c =
    let k = c.requires.find.tools.workspace in
    record {
      tools = record { pool = c.add_words.ensures.pool; workspace = record { pricing = record { pricer = c.add_words.ensures.pricer; room = k.pricing.room }; most = k.most; rosters = c.offer_shifts.ensures.offered.rosters; moves = k.moves } };
      better = c.offer_shifts.ensures.offered.better;
    }

pub returns-in_err-add_words-clause-found : goal.returns-in_err-add_words-clause-found
returns-in_err-add_words-clause-found c =
    let k = c.requires.find.tools.workspace in
    record {
      tools = record { pool = c.add_words.ensures.pool; workspace = record { pricing = record { pricer = c.add_words.ensures.pricer; room = k.pricing.room }; most = k.most; rosters = c.offer_shifts.ensures.offered.rosters; moves = k.moves } };
      better = c.offer_shifts.ensures.offered.better;
    }

pub returns-in_err-workspace-clause-found : goal.returns-in_err-workspace-clause-found
returns-in_err-workspace-clause-found c =
    let k = c.requires.find.tools.workspace in
    record {
      tools = record { pool = record { are = c.requires.find.tools.pool; grown = ([], sym (append-nil c.args.pool.now)) }; workspace = record { pricing = k.pricing; most = k.most; rosters = c.offer_shifts.ensures.offered.rosters; moves = k.moves } };
      better = c.offer_shifts.ensures.offered.better;
    }

pub returns-in_err-is_allowed-clause-found : goal.returns-in_err-is_allowed-clause-found
returns-in_err-is_allowed-clause-found c =
    let k = c.requires.find.tools.workspace in
    record {
      tools = record { pool = record { are = c.requires.find.tools.pool; grown = ([], sym (append-nil c.args.pool.now)) }; workspace = record { pricing = k.pricing; most = k.most; rosters = c.offer_shifts.ensures.offered.rosters; moves = k.moves } };
      better = c.offer_shifts.ensures.offered.better;
    }
