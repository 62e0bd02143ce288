use Rattle.std.proofs.Common.{ℕ, ◌≡◌, [], ◌∷◌, IfOk, subst}
use Rattle.std.specs.Prelude.{MatchResult}
use Rattle.search_days.specs.day_curve.CurveText.{point_of}
use Rattle.command_searches.specs.Curve.{point_name}
use Rattle.command_searches.specs.Series.{IsStoredBy, IsBrokenOff}
use Rattle.command_searches.proofs.curve.kept_point.Goals as goal

pub returns-clause-is : goal.returns-clause-is
returns-clause-is g c = subst (λ (h : ℕ). IfOk c.solved_point-point.result (λ point. point ≡ point_of h c.args.solution.found)) c.heads.ensures c.solved_point-point.ensures.is

pub returns-clause-stored : goal.returns-clause-stored
returns-clause-stored g c =
    subst (λ (h : ℕ). MatchResult c.solved_point-point.result
    (λ _. IsStoredBy (record { name = point_name c.args.proof.now h; text = c.args.solution.proof } ∷ []) (g.S.Shelf.told c.args.shelf.now) (g.S.Shelf.told c.solved_point-point.new.shelf))
    (IsBrokenOff [] (point_name c.args.proof.now h) (g.S.Shelf.told c.args.shelf.now) (g.S.Shelf.told c.solved_point-point.new.shelf))) c.heads.ensures c.solved_point-point.ensures.stored
