-- Lists of trees of the day as rosters.
use Rattle.std.specs.Prelude.{ℕ, ◌≤◌, ◌+◌, List, length}
use Rattle.model_rosters.specs.declared.instance.Cell.{Cell}
use Rattle.model_rosters.specs.declared.instance.Instance.{Instance}
use Rattle.model_rosters.specs.Trees.{Parts, IsDayTree}
use Rattle.model_rosters.specs.Folds.{sum_n, count, Each}
use Rattle.model_rosters.specs.Arcs.{cost}
use Rattle.model_rosters.specs.Coverage.{is_at, penalty, IsWithinCell}
use Rattle.model_rosters.specs.arc_laws.TreeLists.{letters_of}

-- how many of the trees have the cell's letter
abbrev pub tree_cover : List Parts → Cell → ℕ
tree_cover ts c = count (is_at c) (letters_of ts)

-- the cell's coverage is in its range, and at most the greatest number of employees
pub record IsCovered (i : Instance) (ts : List Parts) (c : Cell) : Type 0 where
  pub range : IsWithinCell c (tree_cover ts c)
  pub heads : tree_cover ts c ≤ i.heads_max

-- trees of the day whose number and coverage are those of an allowed roster; the ranges of groups
-- are left to the base cuts
pub record IsTreeRoster (i : Instance) (ts : List Parts) : Type 0 where
  pub day : Each (IsDayTree i.grammar) ts
  pub enough : i.heads_min ≤ length ts
  pub few : length ts ≤ i.heads_max
  pub coverage : Each (IsCovered i ts) i.cells

-- the costs of the trees and the penalties of all cells
abbrev pub trees_cost : Instance → List Parts → ℕ
trees_cost i ts = sum_n (cost i.grammar) ts + sum_n (λ (c : Cell). penalty c (tree_cover ts c)) i.cells
