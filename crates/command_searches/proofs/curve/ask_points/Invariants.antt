use Rattle.std.proofs.Common.{◌≤◌, ◌+◌}
use Rattle.search_days.specs.day_curve.Curves.{first_heads}
use Rattle.command_searches.specs.Curve.{MayStoreTeam}
use Rattle.command_searches.specs.Writer.{IsAsked}
use Rattle.command_searches.proofs.curve.ask_points.Given as goal

abbrev pub invariant-loop : goal.invariant-loop
invariant-loop g l = record {
  asked : IsAsked (MayStoreTeam l.fn.proof l.fn.curve.staff l.fn.curve.day) (g.S.Shelf.told l.fn.shelf) (g.S.Shelf.told l.shelf);
  least : first_heads l.fn.curve.staff l.fn.curve.day ≤ l.heads;
  most : l.heads ≤ first_heads l.fn.curve.staff l.fn.curve.day + l.counter;
}
