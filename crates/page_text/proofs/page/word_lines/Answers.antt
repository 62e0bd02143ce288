use Rattle.std.proofs.lemmas.Result.{on_ok_weaker}
use Rattle.std.proofs.Common.{◌∙◌, append_assoc, append-nil}
use Rattle.std.proofs.lemmas.Grind.{flat_map-append}
use Rattle.page_text.specs.Pages.{word_lines}
use Rattle.page_text.proofs.page.word_lines.Goals as goal

pub returns : goal.returns
unfolding word_lines
returns c =
    on_ok_weaker c.marks-2.result (λ e. e ∙ rw (c.in_ok-units.ensures, c.in_ok-marks.ensures, c.in_ok-labelled_text.ensures, c.as_slice.ensures)
    (simp (append_assoc, append-nil, flat_map-append))) c.marks-2.ensures
