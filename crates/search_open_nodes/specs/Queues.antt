-- Open leaves in any order.
use Rattle.std.specs.Prelude.{◌≡◌, Bool, List}
use Rattle.model_rosters.specs.Folds.{count}
use Rattle.search_open_nodes.specs.declared.leaf.OpenLeaf.{OpenLeaf}

-- the same leaves, each as often, in any order
abbrev pub SameLeaves : List OpenLeaf → List OpenLeaf → Type 0
SameLeaves xs ys = (q : OpenLeaf → Bool) → count q xs ≡ count q ys
