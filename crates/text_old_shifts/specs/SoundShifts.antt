-- What the shifts of an old text are.
use Rattle.std.specs.Prelude.{ℕ, ◌≡◌, ◌+◌, ◌≤◌, length}
use Rattle.model_rosters.specs.declared.instance.Instance.{Instance}
use Rattle.model_rosters.specs.declared.instance.Shift.{Shift}
use Rattle.model_rosters.specs.Folds.{Each}
use Rattle.check_certificates.specs.Sound.{IsSoundShift}
use Rattle.text_old_shifts.specs.declared.said.SaidShifts.{SaidShifts}

-- at most 64 lines, of which those that count are shifts of the day's groups, without prices
pub record AreSoundShifts (i : Instance) (s : SaidShifts) : Type 0 where
  pub few : length s.shifts + s.passed ≤ 64
  pub each : Each (IsSoundShift i) s.shifts
  pub free : Each (λ (x : Shift). x.price ≡ 0) s.shifts
