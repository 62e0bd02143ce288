use Rattle.std.proofs.lemmas.Result.{on_ok_weaker}
use Rattle.std.proofs.Common.{◌∙◌, append_assoc, append-nil}
use Rattle.std.proofs.lemmas.Grind.{flat_map-append}
use Rattle.page_tables.specs.MomentTable.{moment_table}
use Rattle.page_tables.proofs.moments.moment_table.Goals as goal

pub returns : goal.returns
unfolding moment_table
returns c =
    on_ok_weaker c.marks-2.result (λ e. e ∙ rw (c.in_ok-moment_lines.ensures, c.in_ok-marks.ensures, c.table_start.ensures)
    (simp (append_assoc, append-nil, flat_map-append))) c.marks-2.ensures
