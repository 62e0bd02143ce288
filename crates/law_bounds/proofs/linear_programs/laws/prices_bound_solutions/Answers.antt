use Rattle.law_bounds.proofs.linear_programs.Duality.{weak_duality}
use Rattle.law_bounds.proofs.linear_programs.laws.prices_bound_solutions.Goals as goal

pub returns : goal.returns
returns g c = weak_duality (g.P.LinearProgram.program c.args.program.now)
