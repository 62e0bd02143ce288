use Rattle.law_bounds.specs.master_laws.Rows.{rows_of}
use Rattle.law_bounds.proofs.master_laws.RowSums.{master_sound}
use Rattle.law_bounds.proofs.master_laws.laws.master_is_sound.Goals as goal

pub returns : goal.returns
returns c = λ i cuts. master_sound i (rows_of i cuts)
