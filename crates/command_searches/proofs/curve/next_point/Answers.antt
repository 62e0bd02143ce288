use Rattle.search_days.specs.day_curve.Curves.{point_day}
use Rattle.search_days.specs.Solutions.{IsSolution}
use Rattle.command_searches.proofs.LimitLemmas.{of-within}
use Rattle.command_searches.specs.Curve.{point_name}
use Rattle.command_searches.specs.Points.{next_heads}
use Rattle.command_searches.proofs.PointLemmas.{not-begun, point-ends}
use Rattle.command_searches.proofs.curve.next_point.Goals as goal

pub returns-in-Err-clause-point : goal.returns-in-Err-clause-point
returns-in-Err-clause-point g c = not-begun (point_name c.args.proof.now (next_heads c.args.curve.now)) (g.S.Shelf.told c.args.shelf.now)

pub kept_point-requires : goal.kept_point-requires
kept_point-requires g c = let within = c.in-Ok.ensures.solution in (g.M.Master.strict c.args.master.now, within.used, within.holds)

pub returns-in-Ok-clause-point : goal.returns-in-Ok-clause-point
returns-in-Ok-clause-point g c =
    point-ends c.args.curve.now c.next.new.self c.kept_point.new.curve c.args.proof.now _ c.args.limit (g.S.Shelf.told c.args.shelf.now) (g.S.Shelf.told c.kept_point.new.shelf) c.in-Ok.solution c.in-Ok.ensures.given
    c.kept_point.ensures.kept c.kept_point.result
    (of-within c.args.limit _ _ c.turns-limit_turns.ensures.turns c.requires.limit (λ k. IsSolution (point_day c.next.new.self) (g.M.Master.strict c.args.master.now) k c.in-Ok.solution) _ c.begin.ensures c.seconds-limit_seconds.ensures c.in-Ok.ensures.solution)
    c.in-Ok.ensures.counted c.in-Ok.ensures.falls c.kept_point.ensures.is c.kept_point.ensures.stored
