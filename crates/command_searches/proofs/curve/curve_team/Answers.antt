use Rattle.std.specs.Option.{option_copied}
use Rattle.std.proofs.Common.{◌<◌, ◌≤◌, sym, subst}
use Rattle.search_days.specs.day_curve.Curves.{CurveView, points_of}
use Rattle.search_days.specs.day_curve.Staffs.{staff_most}
use Rattle.command_searches.proofs.CurveAnswers.{graph-refused, some-points, few-heads}
use Rattle.command_searches.proofs.curve.curve_team.Goals as goal

pub returns-in-Err : goal.returns-in-Err
returns-in-Err g c =
    graph-refused c.args.instance (option_copied c.args.group) c.args.proof.now _ c.args.limit (g.S.Shelf.told c.args.shelf.now) (g.S.Shelf.told c.say_answer.new.shelf) c.say_answer.result c.args.staff c.requires.team
    c.in-Err.fault c.in-Err.ensures.refused c.graph_refusal.result c.graph_refusal.ensures c.say_answer.ensures

pub curve_made-requires-clause-points : goal.curve_made-requires-clause-points
curve_made-requires-clause-points g c =
    subst (λ (v : CurveView). 0 < points_of v) (sym c.in-Ok.ensures.curve) (some-points c.args.instance c.args.staff c.requires.sound c.requires.staff)

pub curve_made-requires-clause-few : goal.curve_made-requires-clause-few
curve_made-requires-clause-few g c =
    subst (λ (v : CurveView). staff_most v.staff v.day ≤ 64) (sym c.in-Ok.ensures.curve) (few-heads c.args.instance c.args.staff c.requires.sound c.requires.staff)
