use Rattle.std.proofs.Common.{ap, ◌∙◌, length}
use Rattle.lp_master_rows.proofs.RowNumbers.{heads_begin}
use Rattle.lp_master_rows.proofs.rows.NodeRows.first_head.Goals as goal

pub returns : goal.returns
returns c = λ i cuts are. c.len.ensures ∙ ap length are.letters ∙ heads_begin i
