use Rattle.std.proofs.Common.{sym, ap, ◌∙◌}
use Rattle.search_days.specs.day_curve.Curves.{CurveView, point_day}
use Rattle.search_days.proofs.day_curve.CurveDays.{day-is, sound-now}
use Rattle.search_days.proofs.day_curve.curve.Curve.instance.Goals as goal

pub returns-clause-day : goal.returns-clause-day
returns-clause-day c = let i = c.self.inside in sym (day-is i.instance i.staff i.most i.given i.pool i.kept c.self.invariant) ∙ ap (λ (v : CurveView). point_day v) c.self.view_is

pub returns-clause-sound : goal.returns-clause-sound
returns-clause-sound c = let i = c.self.inside in sound-now i.instance i.staff i.most i.given i.pool i.kept c.self.invariant
