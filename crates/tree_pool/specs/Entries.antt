-- The entries of a pool.
use Rattle.std.specs.Prelude.{◌≡◌, List, map}
use Rattle.model_rosters.specs.declared.grammar.Grammar.{Grammar}
use Rattle.model_rosters.specs.declared.grammar.Step.{Step}
use Rattle.model_rosters.specs.Trees.{Parts, IsDayTree, steps}
use Rattle.tree_pool.specs.declared.entry.Entry.{Entry}
use Rattle.tree_pool.specs.declared.facts.Facts.{Facts}
use Rattle.tree_pool.specs.Pools.{PoolTree, IsPoolTree}

-- what a contract sees of a tree with these rule uses and facts
abbrev pub told : List Step → Facts → PoolTree
told xs f = record { steps = xs; codes = f.codes; arcs = f.arcs; cost = f.cost }

-- what a contract sees of an entry
abbrev pub seen : Entry → PoolTree
seen e = told e.tree.steps e.facts

abbrev pub all_seen : List Entry → List PoolTree
all_seen es = map seen es

-- these are the facts of each tree of the day with these steps
abbrev pub TellFacts : Grammar → List Step → Facts → Type 0
TellFacts g xs f = (t : Parts) → IsDayTree g t → xs ≡ steps 1 t → IsPoolTree g t (told xs f)
