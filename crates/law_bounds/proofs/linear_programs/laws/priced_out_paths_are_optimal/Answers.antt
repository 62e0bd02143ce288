use Rattle.law_bounds.proofs.linear_programs.Paths.{path_tied}
use Rattle.law_bounds.proofs.linear_programs.Solutions.{tied_value}
use Rattle.law_bounds.proofs.linear_programs.laws.priced_out_paths_are_optimal.Goals as goal

pub returns : goal.returns
returns g c = λ sound n t path. tied_value (g.P.LinearProgram.program c.args.program.now) t (path_tied (g.P.LinearProgram.program c.args.program.now) sound n t path)
