use Rattle.law_bounds.proofs.linear_programs.Paths.{path_tied}
use Rattle.law_bounds.proofs.linear_programs.Solutions.{to_first, from_first}
use Rattle.law_bounds.proofs.linear_programs.laws.paths_keep_solutions.Goals as goal

pub returns : goal.returns
returns g c = λ sound n t path v q.
    let tied = path_tied (g.P.LinearProgram.program c.args.program.now) sound n t path in
    (to_first (g.P.LinearProgram.program c.args.program.now) t tied v q, from_first (g.P.LinearProgram.program c.args.program.now) t tied v q)
