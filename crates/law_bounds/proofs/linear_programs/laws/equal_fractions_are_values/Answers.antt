use Rattle.law_bounds.proofs.linear_programs.Values.{equal_value}
use Rattle.law_bounds.proofs.linear_programs.laws.equal_fractions_are_values.Goals as goal

pub returns : goal.returns
returns g c = λ v w q r some e value. equal_value (g.P.LinearProgram.program c.args.program.now) v w q r some e value
