use Rattle.std.proofs.lemmas.Result.{on_ok_weaker}
use Rattle.std.proofs.Common.{◌∙◌, append_assoc, append-nil}
use Rattle.std.proofs.lemmas.Grind.{flat_map-append}
use Rattle.page_text.specs.Pages.{chart_head}
use Rattle.page_text.proofs.page.chart_head.Goals as goal

pub returns : goal.returns
unfolding chart_head
returns c =
    on_ok_weaker c.size.result (λ e. e ∙ rw (c.in_ok-in_words.ensures, c.in_ok-marks-2.ensures, c.in_ok-labelled_text-2.ensures, c.in_ok-labelled_text.ensures, c.in_ok-chip.ensures, c.in_ok-marks.ensures, c.words_at.ensures, c.chart_width.ensures)
    (simp (append_assoc, append-nil, flat_map-append))) c.size.ensures
