-- What is found.
use Rattle.std.specs.Prelude.{◌≤◌, List, length}
use Rattle.model_rosters.specs.declared.instance.Instance.{Instance}
use Rattle.model_rosters.specs.declared.instance.Shift.{Shift}
use Rattle.model_rosters.specs.Folds.{Each}
use Rattle.check_certificates.specs.Sound.{IsSoundShift}

-- at most 64 sound shifts
pub record AreSoundShifts (i : Instance) (shifts : List Shift) : Type 0 where
  pub few : length shifts ≤ 64
  pub each : Each (IsSoundShift i) shifts
