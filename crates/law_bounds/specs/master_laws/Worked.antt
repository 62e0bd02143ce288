-- A day of three shifts over three periods: its master at the root and at both halves of a split.
use Rattle.std.specs.Prelude.{◌≡◌, pos, [], length}
use Rattle.law_bounds.specs.linear_programs.Solution.{IsValue}
use Rattle.law_bounds.specs.master_laws.Rows.{rows_of}
use Rattle.law_bounds.specs.master_laws.Master.{master}
use Rattle.law_bounds.specs.WorkedDay.{day, none, some}

-- the values 3 at the root, where each tree has the weight 1 / 2, and 4 in both halves
pub record WorkedMaster : Type 0 where
  pub rows : length (rows_of day none) ≡ 6
  pub root : IsValue (master day []) (pos 3) 1
  pub low : IsValue (master day none) (pos 4) 1
  pub high : IsValue (master day some) (pos 4) 1
