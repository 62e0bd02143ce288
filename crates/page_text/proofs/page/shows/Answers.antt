use Rattle.std.proofs.lemmas.Result.{on_ok_weaker}
use Rattle.std.proofs.Common.{◌∙◌, append_assoc, append-nil}
use Rattle.page_text.specs.Pages.{shows}
use Rattle.page_text.proofs.page.shows.Goals as goal

pub returns : goal.returns
unfolding shows
returns c =
    on_ok_weaker c.marks.result (λ e. e ∙ rw (c.in_ok-labelled-4.ensures, c.in_ok-labelled-3.ensures, c.in_ok-labelled-2.ensures, c.in_ok-labelled.ensures)
    (simp (append_assoc, append-nil))) c.marks.ensures
