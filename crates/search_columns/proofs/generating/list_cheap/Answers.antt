use Rattle.std.proofs.Common.{refl}
use Rattle.search_columns.proofs.PoolGrowth.{generating_chain}
use Rattle.search_columns.proofs.generating.list_cheap.Goals as goal

pub returns-in_err-ask_all : goal.returns-in_err-ask_all
returns-in_err-ask_all c = generating_chain _ _ _ _ _ _ _ _ _ refl refl c.in_ok-is_cheap.ensures c.ask_all.ensures

pub returns-in_err-list_trees : goal.returns-in_err-list_trees
returns-in_err-list_trees c = generating_chain _ _ _ _ _ _ _ _ _ refl refl c.in_ok-is_cheap.ensures c.in_ok-ask_all.ensures

pub returns : goal.returns
returns c = generating_chain _ _ _ _ _ _ _ _ _ refl refl c.in_ok-is_cheap.ensures c.in_ok-ask_all.ensures
