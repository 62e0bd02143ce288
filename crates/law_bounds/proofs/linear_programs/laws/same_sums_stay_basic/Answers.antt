use Rattle.law_bounds.proofs.linear_programs.Values.{same_basic, same_least}
use Rattle.law_bounds.proofs.linear_programs.laws.same_sums_stay_basic.Goals as goal

pub returns-clause-basic : goal.returns-clause-basic
returns-clause-basic g c = λ ws vs q sums belongs used b. same_basic (g.P.LinearProgram.program c.args.program.now) ws vs sums q belongs used b

pub returns-clause-least : goal.returns-clause-least
returns-clause-least g c = λ ws vs q sums least. same_least (g.P.LinearProgram.program c.args.program.now) ws vs sums q least
