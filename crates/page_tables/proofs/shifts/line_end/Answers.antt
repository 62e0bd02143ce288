use Rattle.std.proofs.lemmas.Result.{on_ok_weaker}
use Rattle.std.proofs.Common.{◌∙◌, append_assoc, append-nil}
use Rattle.std.proofs.lemmas.Grind.{flat_map-append}
use Rattle.page_tables.specs.ShiftTable.{line_end}
use Rattle.page_tables.proofs.shifts.line_end.Goals as goal

pub returns : goal.returns
unfolding line_end
returns c =
    on_ok_weaker c.marks-2.result (λ e. e ∙ rw (c.in_ok-last_cells.ensures, c.in_ok-marks.ensures, c.in_ok-labelled.ensures)
    (simp (append_assoc, append-nil, flat_map-append))) c.marks-2.ensures
