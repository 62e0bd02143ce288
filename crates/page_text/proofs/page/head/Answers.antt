use Rattle.std.proofs.lemmas.Result.{on_ok_weaker}
use Rattle.std.proofs.Common.{◌∙◌, append_assoc, append-nil}
use Rattle.std.proofs.lemmas.Grind.{flat_map-append}
use Rattle.page_text.specs.Pages.{head}
use Rattle.page_text.proofs.page.head.Goals as goal

pub returns : goal.returns
unfolding head
returns c =
    on_ok_weaker c.marks-3.result (λ e. e ∙ rw (c.in_ok-labelled_text-2.ensures, c.in_ok-all_show.ensures, c.in_ok-marks-2.ensures, c.in_ok-marks.ensures, c.in_ok-labelled_text.ensures, c.before_title.ensures, c.style.ensures, c.after_style.ensures, c.title_of.ensures, c.title_of-2.ensures)
    (simp (append_assoc, append-nil, flat_map-append))) c.marks-3.ensures
