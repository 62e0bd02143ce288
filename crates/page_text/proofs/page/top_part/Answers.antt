use Rattle.std.proofs.lemmas.Result.{on_ok_weaker}
use Rattle.std.proofs.Common.{◌∙◌, append_assoc, append-nil}
use Rattle.std.proofs.lemmas.Grind.{flat_map-append}
use Rattle.page_text.specs.Pages.{top_part}
use Rattle.page_text.proofs.page.top_part.Goals as goal

pub returns : goal.returns
unfolding top_part
returns c =
    on_ok_weaker c.changes_part.result (λ e. e ∙ rw (c.in_ok-costs.ensures, c.in_ok-marks.ensures, c.in_ok-sentence.ensures, c.in_ok-head.ensures, c.as_slice.ensures, c.as_slice-2.ensures, c.as_slice-3.ensures)
    (simp (append_assoc, append-nil, flat_map-append))) c.changes_part.ensures
