use Rattle.std.proofs.lemmas.Result.{on_ok_weaker}
use Rattle.std.proofs.Common.{◌∙◌, append_assoc, append-nil}
use Rattle.std.proofs.lemmas.Grind.{flat_map-append}
use Rattle.page_tables.specs.RunLists.{run_table}
use Rattle.page_tables.proofs.lists.run_table.Goals as goal

pub returns : goal.returns
unfolding run_table
returns c =
    on_ok_weaker c.marks-4.result (λ e. e ∙ rw (c.in_ok-run_lines.ensures, c.in_ok-marks-3.ensures, c.in_ok-marks-2.ensures, c.in_ok-marks.ensures, c.table_heads.ensures)
    (simp (append_assoc, append-nil, flat_map-append))) c.marks-4.ensures
