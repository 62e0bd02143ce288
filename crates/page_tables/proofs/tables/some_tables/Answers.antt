use Rattle.std.proofs.lemmas.Result.{on_ok_weaker}
use Rattle.std.proofs.Common.{◌∙◌, append_assoc, append-nil}
use Rattle.std.proofs.lemmas.Grind.{flat_map-append}
use Rattle.page_tables.specs.Tables.{some_tables}
use Rattle.page_tables.proofs.tables.some_tables.Goals as goal

pub returns : goal.returns
unfolding some_tables
returns c =
    on_ok_weaker c.marks-2.result (λ e. e ∙ rw (c.in_ok-shift_table.ensures, c.in_ok-moment_list.ensures, c.in_ok-head_table.ensures, c.in_ok-total_table.ensures, c.in_ok-run_list-2.ensures, c.in_ok-run_list.ensures, c.in_ok-marks.ensures, c.as_slice.ensures, c.as_slice-2.ensures, c.as_slice-3.ensures, c.as_slice-4.ensures, c.as_slice-5.ensures, c.as_slice-6.ensures)
    (simp (append_assoc, append-nil, flat_map-append))) c.marks-2.ensures
