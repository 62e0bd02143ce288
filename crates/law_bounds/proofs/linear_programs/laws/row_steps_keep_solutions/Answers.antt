use Rattle.law_bounds.proofs.linear_programs.RowLaws.{step_meets, step_met}
use Rattle.law_bounds.proofs.linear_programs.laws.row_steps_keep_solutions.Goals as goal

pub returns-clause-after : goal.returns-clause-after
returns-clause-after c = λ m p row a other left g s v q. step_meets m p row a other left g s v q

pub returns-clause-before : goal.returns-clause-before
returns-clause-before c = λ m p row a other left g s h v q. step_met m p row a other left g s v q h
