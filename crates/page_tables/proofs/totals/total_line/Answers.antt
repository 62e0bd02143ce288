use Rattle.std.proofs.lemmas.Result.{on_ok_weaker}
use Rattle.std.proofs.Common.{◌∙◌, append_assoc, append-nil}
use Rattle.std.proofs.lemmas.Grind.{flat_map-append}
use Rattle.page_tables.specs.TotalTable.{total_line}
use Rattle.page_tables.proofs.totals.total_line.Goals as goal

pub returns : goal.returns
unfolding total_line
returns c =
    on_ok_weaker c.marks.result (λ e. e ∙ rw (c.in_ok-share_cell.ensures, c.in_ok-total_front.ensures)
    (simp (append_assoc, append-nil, flat_map-append))) c.marks.ensures
