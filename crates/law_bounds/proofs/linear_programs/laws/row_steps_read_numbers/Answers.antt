use Rattle.law_bounds.proofs.linear_programs.RowLaws.{same_step}
use Rattle.law_bounds.proofs.linear_programs.laws.row_steps_read_numbers.Goals as goal

pub returns : goal.returns
returns c = same_step
