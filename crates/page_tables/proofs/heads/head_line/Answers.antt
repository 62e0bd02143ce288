use Rattle.std.proofs.lemmas.Result.{on_ok_weaker}
use Rattle.std.proofs.Common.{◌∙◌, append_assoc, append-nil}
use Rattle.std.proofs.lemmas.Grind.{flat_map-append}
use Rattle.page_tables.specs.HeadTable.{head_line}
use Rattle.page_tables.proofs.heads.head_line.Goals as goal

pub returns : goal.returns
unfolding head_line
returns c =
    on_ok_weaker c.head_end.result (λ e. e ∙ rw (c.in_ok-labelled_text.ensures, c.as_slice.ensures)
    (simp (append_assoc, append-nil, flat_map-append))) c.head_end.ensures
