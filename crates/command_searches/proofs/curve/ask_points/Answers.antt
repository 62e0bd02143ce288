use Rattle.std.proofs.Common.{◌<◌, arith, rules}
use Rattle.std.proofs.lemmas.Result.{err_from_is_err_and}
use Rattle.search_days.specs.day_curve.Curves.{points_of}
use Rattle.command_searches.proofs.PointNames.{none-asked, point-asked, point-left}
use Rattle.command_searches.proofs.curve.ask_points.Goals as goal

pub loop-init : goal.loop-init
loop-init g c = record {
  asked = none-asked c.args.proof.now c.args.curve.now.staff c.args.curve.now.day (g.S.Shelf.told c.args.shelf.now);
  least = omega (arith, c.heads-heads.ensures, c.requires);
  most = omega (arith, c.heads-heads.ensures, c.requires);
}

pub returns-in_err-ask_point : goal.returns-in_err-ask_point
returns-in_err-ask_point g c =
    let more : c.loop.counter < points_of c.args.curve.now = omega (arith, c.points-end.ensures, c.loop-test.true) in
    let p = err_from_is_err_and c.from_residual.result c.from_residual.ensures.1 in
    rw (p.1, p.2) (point-left c.args.proof.now c.args.curve.now.staff c.args.curve.now.day c.loop.heads c.loop.counter c.loop.invariant.least c.loop.invariant.most more
    (g.S.Shelf.told c.args.shelf.now) (g.S.Shelf.told c.loop.shelf) (g.S.Shelf.told c.ask_point.new.shelf) _ c.loop.invariant.asked c.in_err-ask_point.ensures)

pub loop-preserved : goal.loop-preserved
loop-preserved g c =
    let more : c.loop.counter < points_of c.args.curve.now = omega (arith, c.points-end.ensures, c.loop-test.true) in
    record {
      asked = point-asked c.args.proof.now c.args.curve.now.staff c.args.curve.now.day c.loop.heads c.loop.counter c.loop.invariant.least c.loop.invariant.most more
          (g.S.Shelf.told c.args.shelf.now) (g.S.Shelf.told c.loop.shelf) (g.S.Shelf.told c.ask_point.new.shelf) c.loop.invariant.asked c.in_ok-ask_point.ensures;
      least = search rules;
      most = search rules;
    }
