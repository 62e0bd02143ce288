use Rattle.std.proofs.lemmas.Result.{on_ok_weaker}
use Rattle.std.proofs.Common.{◌∙◌, append_assoc, append-nil}
use Rattle.std.proofs.lemmas.Grind.{flat_map-append}
use Rattle.page_tables.specs.ShiftTable.{first_cells}
use Rattle.page_tables.proofs.shifts.first_cells.Goals as goal

pub returns : goal.returns
unfolding first_cells
returns c =
    on_ok_weaker c.marks.result (λ e. e ∙ rw (c.in_ok-labelled_text-2.ensures, c.in_ok-labelled_amount.ensures, c.in_ok-labelled_text.ensures, c.as_slice.ensures, c.as_slice-2.ensures)
    (simp (append_assoc, append-nil, flat_map-append))) c.marks.ensures
