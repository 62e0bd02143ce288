use Rattle.law_bounds.proofs.linear_programs.Paths.{path_tied}
use Rattle.law_bounds.proofs.linear_programs.laws.paths_stay_feasible.Goals as goal

pub returns-clause-right : goal.returns-clause-right
returns-clause-right g c = λ sound n t path. (path_tied (g.P.LinearProgram.program c.args.program.now) sound n t path).feasible

pub returns-clause-kappa : goal.returns-clause-kappa
returns-clause-kappa g c = λ sound n t path. (path_tied (g.P.LinearProgram.program c.args.program.now) sound n t path).kappa

pub returns-clause-value : goal.returns-clause-value
returns-clause-value g c = λ sound n t path. (path_tied (g.P.LinearProgram.program c.args.program.now) sound n t path).value
