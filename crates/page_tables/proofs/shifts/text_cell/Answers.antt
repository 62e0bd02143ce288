use Rattle.std.proofs.lemmas.Result.{on_ok_weaker}
use Rattle.std.proofs.Common.{◌∙◌, append_assoc, append-nil}
use Rattle.std.proofs.lemmas.Grind.{flat_map-append}
use Rattle.page_tables.specs.ShiftTable.{text_cell}
use Rattle.page_tables.proofs.shifts.text_cell.Goals as goal

pub returns : goal.returns
unfolding text_cell
returns c =
    on_ok_weaker c.marks.result (λ e. e ∙ rw (c.in_ok-labelled_text.ensures)
    (simp (append_assoc, append-nil, flat_map-append))) c.marks.ensures
