use Rattle.std.proofs.lemmas.Result.{on_ok_weaker}
use Rattle.std.proofs.Common.{◌∙◌, append_assoc, append-nil}
use Rattle.std.proofs.lemmas.Grind.{flat_map-append}
use Rattle.page_tables.specs.ShiftTable.{shift_table}
use Rattle.page_tables.proofs.shifts.shift_table.Goals as goal

pub returns : goal.returns
unfolding shift_table
returns c =
    on_ok_weaker c.marks-5.result (λ e. e ∙ rw (c.in_ok-shift_lines.ensures, c.in_ok-marks-4.ensures, c.in_ok-marks-3.ensures, c.in_ok-marks-2.ensures, c.in_ok-marks.ensures, c.table_start.ensures, c.group_head.ensures, c.who_head.ensures, c.table_heads.ensures)
    (simp (append_assoc, append-nil, flat_map-append))) c.marks-5.ensures
