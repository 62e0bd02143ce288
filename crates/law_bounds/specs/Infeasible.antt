-- Instances whose head counts or a cell alone show that no roster is allowed.
use Rattle.std.specs.Prelude.{◌<◌, ◌⊎◌, min}
use Rattle.model_rosters.specs.declared.instance.Cell.{Cell}
use Rattle.model_rosters.specs.declared.instance.Instance.{Instance}
use Rattle.model_rosters.specs.Trees.{Parts, IsTreeOf}
use Rattle.model_rosters.specs.Folds.{In}
use Rattle.model_rosters.specs.Teams.{Team, teams}

-- a team that needs employees and has no shift
pub record IsUnstaffable (i : Instance) (t : Team) : Type 0 where
  pub team : In t (teams i)
  pub needs : 0 < t.least
  pub none : (p : Parts) → IsTreeOf i.grammar t.name p → ⊥

-- a cell with no count in its range
pub record IsUnmeetable (i : Instance) (c : Cell) : Type 0 where
  pub cell : In c i.cells
  pub none : min c.ceiling i.heads_max < c.floor

abbrev pub IsPlainlyInfeasible : Instance → Type 0
IsPlainlyInfeasible i = ((t : Team) × IsUnstaffable i t) ⊎ ((c : Cell) × IsUnmeetable i c)
