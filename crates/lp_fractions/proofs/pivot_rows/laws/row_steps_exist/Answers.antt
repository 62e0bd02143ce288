use Rattle.lp_fractions.proofs.pivot_rows.Steps.{a_step}
use Rattle.lp_fractions.proofs.pivot_rows.laws.row_steps_exist.Goals as goal

pub returns : goal.returns
returns c = a_step
