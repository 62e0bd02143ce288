use Rattle.std.proofs.Common.{◌≡◌, rules, sym, ap, subst, ◌∙◌}
use Rattle.model_rosters.specs.declared.instance.Instance.{Instance}
use Rattle.search_days.specs.day_curve.Curves.{CurveView, point_day}
use Rattle.search_days.specs.Solutions.{IsSearched, IsWritten}
use Rattle.search_days.proofs.day_curve.day.DayCurve.written.Goals as goal

pub with_text-requires-clause-day : goal.with_text-requires-clause-day
with_text-requires-clause-day c = record { sound = c.instance.ensures.sound; graph = search rules }

pub with_text-requires-clause-found : goal.with_text-requires-clause-found
with_text-requires-clause-found c =
    let day : c.instance.result.now ≡ point_day c.args.self.now = c.instance.ensures.day ∙ ap (λ (v : CurveView). point_day v) c.self.view_is in
    subst (λ (i : Instance). IsSearched i c.args.found) (sym day) c.requires.found

pub returns-in-Ok-clause-written : goal.returns-in-Ok-clause-written
returns-in-Ok-clause-written c =
    let day : c.instance.result.now ≡ point_day c.args.self.now = c.instance.ensures.day ∙ ap (λ (v : CurveView). point_day v) c.self.view_is in
    subst (λ (i : Instance). IsWritten i c.args.found c.in-Ok.solution) day c.in-Ok.ensures
