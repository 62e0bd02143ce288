use Rattle.std.proofs.Common.{sym, subst}
use Rattle.model_rosters.specs.Folds.{Each}
use Rattle.check_certificates.specs.Sound.{IsSoundShift}
use Rattle.search_days.specs.day_curve.Curves.{CurveView, point_heads}
use Rattle.search_days.proofs.day_curve.StaffDays.{shifts-back}
use Rattle.search_days.proofs.day_curve.day.DayCurve.keep.Goals as goal

pub keep-requires-clause-sound : goal.keep-requires-clause-sound
keep-requires-clause-sound c =
    let v = c.args.self.now in
    let shifts = c.args.solution.found.cert.shifts in
    subst (λ (w : CurveView). Each (IsSoundShift w.day) shifts) (sym c.self.view_is) (shifts-back v.staff v.day (point_heads v) shifts c.requires.2.found.sound.shifts)
