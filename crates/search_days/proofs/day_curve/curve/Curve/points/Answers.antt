use Rattle.std.proofs.Common.{ℕ, arith, ◌+◌, ◌-◌, sym, ap, ◌∙◌}
use Rattle.search_days.specs.day_curve.Curves.{CurveView, points_of}
use Rattle.search_days.proofs.day_curve.CurveDays.{count-of, first-fits, most-few}
use Rattle.search_days.proofs.day_curve.curve.Curve.points.Goals as goal

pub overflow_add-result : goal.overflow_add-result
overflow_add-result c = let i = c.self.inside in let few = most-few i.instance i.staff i.most i.given i.pool i.kept c.self.invariant in omega (arith, few)

pub overflow_sub-result : goal.overflow_sub-result
overflow_sub-result c = let i = c.self.inside in let fits = first-fits i.instance i.staff i.most i.given i.pool i.kept c.self.invariant in omega (arith, fits, c.first_heads.ensures)

pub returns : goal.returns
returns c =
    let i = c.self.inside in
    ap (λ (n : ℕ). i.most + 1 - n) c.first_heads.ensures ∙ sym (count-of i.staff i.instance i.most c.self.invariant.counted) ∙ ap (λ (v : CurveView). points_of v) c.self.view_is
