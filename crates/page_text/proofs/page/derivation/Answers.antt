use Rattle.std.proofs.lemmas.Result.{on_ok_weaker}
use Rattle.std.proofs.Common.{◌∙◌, append_assoc, append-nil}
use Rattle.std.proofs.lemmas.Grind.{flat_map-append}
use Rattle.page_text.specs.Pages.{derivation}
use Rattle.page_text.proofs.page.derivation.Goals as goal

pub returns : goal.returns
unfolding derivation
returns c =
    on_ok_weaker c.marks-3.result (λ e. e ∙ rw (c.in_ok-given.ensures, c.in_ok-lines_at.ensures, c.in_ok-marks-2.ensures, c.in_ok-heading.ensures, c.in_ok-marks.ensures, c.in_ok-labelled.ensures, c.behind_line-2.ensures, c.behind_line.ensures, c.as_slice.ensures)
    (simp (append_assoc, append-nil, flat_map-append))) c.marks-3.ensures
