use Rattle.std.proofs.lemmas.Result.{on_ok_weaker}
use Rattle.std.proofs.Common.{◌∙◌, append_assoc, append-nil}
use Rattle.std.proofs.lemmas.Grind.{flat_map-append}
use Rattle.page_tables.specs.MomentTable.{moment_line}
use Rattle.page_tables.proofs.moments.moment_line.Goals as goal

pub returns : goal.returns
unfolding moment_line
returns c =
    on_ok_weaker c.marks.result (λ e. e ∙ rw (c.in_ok-labelled-2.ensures, c.in_ok-labelled.ensures, c.in_ok-labelled_text.ensures, c.as_slice.ensures)
    (simp (append_assoc, append-nil, flat_map-append))) c.marks.ensures
