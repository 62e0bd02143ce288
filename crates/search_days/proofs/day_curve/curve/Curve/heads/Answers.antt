use Rattle.std.proofs.Common.{ap, ◌∙◌}
use Rattle.search_days.specs.day_curve.Curves.{CurveView, point_heads}
use Rattle.search_days.proofs.day_curve.CurveDays.{heads-is}
use Rattle.search_days.proofs.day_curve.curve.Curve.heads.Goals as goal

pub returns : goal.returns
returns c = let i = c.self.inside in c.staff_most.ensures ∙ heads-is i.instance i.staff i.most i.given i.pool i.kept c.self.invariant ∙ ap (λ (v : CurveView). point_heads v) c.self.view_is
