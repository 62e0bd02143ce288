use Rattle.std.proofs.Common.{sym, subst}
use Rattle.model_rosters.specs.Folds.{Each}
use Rattle.check_certificates.specs.Sound.{IsSoundShift}
use Rattle.search_days.specs.day_curve.Curves.{CurveView}
use Rattle.search_days.proofs.day_curve.CurveDays.{kept-now}
use Rattle.search_days.proofs.day_curve.curve.Curve.keep.Goals as goal

pub invariant_of-self : goal.invariant_of-self
invariant_of-self c =
    let i = c.self.inside in
    let h = c.self.invariant in
    record {
      sound = h.sound;
      counted = h.counted;
      within = h.within;
      heads = h.heads;
      trees = h.trees;
      shifts = kept-now i.instance i.staff i.most i.given i.pool i.kept c.self.invariant c.args.shifts (subst (λ (v : CurveView). Each (IsSoundShift v.day) c.args.shifts) (sym c.self.view_is) c.requires.sound);
      few = c.requires.few;
    }
