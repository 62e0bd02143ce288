use Rattle.std.proofs.lemmas.Result.{on_ok_weaker}
use Rattle.std.proofs.Common.{◌∙◌, append_assoc, append-nil}
use Rattle.std.proofs.lemmas.Grind.{flat_map-append}
use Rattle.page_text.specs.Pages.{titled_derivations}
use Rattle.page_text.proofs.page.titled_derivations.Goals as goal

pub returns : goal.returns
unfolding titled_derivations
returns c =
    on_ok_weaker c.marks-2.result (λ e. e ∙ rw (c.in_ok-derivations.ensures, c.in_ok-marks.ensures)
    (simp (append_assoc, append-nil, flat_map-append))) c.marks-2.ensures
