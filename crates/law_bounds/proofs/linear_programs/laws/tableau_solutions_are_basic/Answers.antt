use Rattle.law_bounds.proofs.linear_programs.Paths.{path_tied}
use Rattle.law_bounds.proofs.linear_programs.Solutions.{tableau_solution, tied_basic, solution_cost}
use Rattle.law_bounds.proofs.linear_programs.laws.tableau_solutions_are_basic.Goals as goal

pub returns-clause-some : goal.returns-clause-some
returns-clause-some g c = λ sound n t path. tableau_solution (g.P.LinearProgram.program c.args.program.now) t (path_tied (g.P.LinearProgram.program c.args.program.now) sound n t path)

pub returns-clause-basic : goal.returns-clause-basic
returns-clause-basic g c = λ sound n t path. tied_basic (g.P.LinearProgram.program c.args.program.now) t (path_tied (g.P.LinearProgram.program c.args.program.now) sound n t path)

pub returns-clause-cost : goal.returns-clause-cost
returns-clause-cost g c = λ sound n t path. solution_cost (g.P.LinearProgram.program c.args.program.now) t (path_tied (g.P.LinearProgram.program c.args.program.now) sound n t path)
