use Rattle.std.proofs.Common.{◌≡◌, ◌≤◌, vec_len, vec_capacity}
use Rattle.command_searches.specs.Points.{FindsFirst}
use Rattle.command_searches.specs.Solve.{lent}
use Rattle.command_searches.proofs.curve.all_points.Given as goal

abbrev pub invariant-loop : goal.invariant-loop
invariant-loop g l = record {
  first : FindsFirst l.fn.curve.day l.fn.curve.staff l.fn.proof (lent (g.M.Master.strict l.fn.master) (g.M.Master.refused l.fn.master) (g.M.Master.refused l.master)) l.fn.limit l.counter
      l.curve.kept (g.S.Shelf.told l.fn.shelf) (g.S.Shelf.told l.shelf) l.points.items;
  curve : l.curve ≡ record l.fn.curve { given = l.counter; kept = l.curve.kept };
  strict : g.M.Master.strict l.master ≡ g.M.Master.strict l.fn.master;
  room : l.count ≤ vec_capacity l.points;
  many : vec_len l.points ≤ l.counter;
}
