use Rattle.std.proofs.lemmas.Result.{on_ok_weaker}
use Rattle.std.proofs.Common.{◌∙◌, append_assoc, append-nil}
use Rattle.std.proofs.lemmas.Grind.{flat_map-append}
use Rattle.page_text.specs.Pages.{read_line}
use Rattle.page_text.proofs.page.read_line.Goals as goal

pub returns : goal.returns
unfolding read_line
returns c =
    on_ok_weaker c.marks.result (λ e. e ∙ rw (c.in_ok-labelled_text.ensures, c.in_ok-given.ensures, c.as_slice.ensures, c.as_slice-2.ensures)
    (simp (append_assoc, append-nil, flat_map-append))) c.marks.ensures
