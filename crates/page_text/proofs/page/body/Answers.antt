use Rattle.std.proofs.lemmas.Result.{on_ok_weaker}
use Rattle.std.proofs.Common.{◌∙◌, append_assoc, append-nil}
use Rattle.std.proofs.lemmas.Grind.{flat_map-append}
use Rattle.page_text.specs.Pages.{body}
use Rattle.page_text.proofs.page.body.Goals as goal

pub returns : goal.returns
unfolding body
returns c =
    on_ok_weaker c.marks.result (λ e. e ∙ rw (c.in_ok-foot_part.ensures, c.in_ok-derivations_part.ensures, c.in_ok-add_tables.ensures, c.in_ok-coverage_part.ensures, c.in_ok-shifts_part.ensures, c.in_ok-top_part.ensures, c.as_slice-texts.ensures, c.as_slice.ensures, c.as_slice-2.ensures)
    (simp (append_assoc, append-nil, flat_map-append))) c.marks.ensures
