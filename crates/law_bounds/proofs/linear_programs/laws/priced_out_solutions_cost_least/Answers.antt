use Rattle.law_bounds.proofs.linear_programs.Paths.{path_tied}
use Rattle.law_bounds.proofs.linear_programs.Values.{tied_least}
use Rattle.law_bounds.proofs.linear_programs.laws.priced_out_solutions_cost_least.Goals as goal

pub returns : goal.returns
returns g c = λ sound n t path out w q s.
    let p = g.P.LinearProgram.program c.args.program.now in
    tied_least p t (path_tied p sound n t path) out w q s
