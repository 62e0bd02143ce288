use Rattle.std.proofs.Common.{ℤ, List, length, ap, ◌∙◌}
use Rattle.lp_fractions.specs.Row.{at}
use Rattle.law_bounds.specs.master_laws.Rows.{rows_of}
use Rattle.lp_master_rows.proofs.RowNumbers.{rights_length, right_at}
use Rattle.lp_master_rows.proofs.rows.NodeRows.right.Goals as goal

pub returns-clause-length : goal.returns-clause-length
returns-clause-length c = λ i cuts are. ap length (c.as_slice.ensures ∙ are.right) ∙ rights_length (rows_of i cuts)

pub returns-clause-value : goal.returns-clause-value
returns-clause-value c = λ i cuts are r l. ap (λ (xs : List ℤ). at xs r) (c.as_slice.ensures ∙ are.right) ∙ right_at (rows_of i cuts) r l
