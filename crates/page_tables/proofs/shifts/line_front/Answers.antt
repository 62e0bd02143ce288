use Rattle.std.proofs.lemmas.Result.{on_ok_weaker}
use Rattle.std.proofs.Common.{◌∙◌, append_assoc, append-nil}
use Rattle.std.proofs.lemmas.Grind.{flat_map-append}
use Rattle.page_tables.specs.ShiftTable.{line_front}
use Rattle.page_tables.proofs.shifts.line_front.Goals as goal

pub returns : goal.returns
unfolding line_front
returns c =
    on_ok_weaker c.labelled_text-2.result (λ e. e ∙ rw (c.in_ok-labelled_text.ensures, c.in_ok-text_cell_if-2.ensures, c.in_ok-text_cell_if.ensures, c.in_ok-marks.ensures, c.in_ok-labelled.ensures, c.as_slice.ensures, c.as_slice-2.ensures, c.as_slice-3.ensures, c.as_slice-4.ensures)
    (simp (append_assoc, append-nil, flat_map-append))) c.labelled_text-2.ensures
