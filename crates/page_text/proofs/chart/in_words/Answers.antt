use Rattle.std.proofs.lemmas.Result.{on_ok_weaker}
use Rattle.std.proofs.Common.{◌∙◌, append_assoc, append-nil}
use Rattle.std.proofs.lemmas.Grind.{flat_map-append}
use Rattle.page_text.specs.Charts.{in_words}
use Rattle.page_text.proofs.chart.in_words.Goals as goal

pub returns : goal.returns
unfolding in_words
returns c =
    on_ok_weaker c.marks.result (λ e. e ∙ rw (c.in_ok-labelled_counts-4.ensures, c.in_ok-labelled_counts-3.ensures, c.in_ok-labelled_counts-2.ensures, c.in_ok-labelled_counts.ensures)
    (simp (append_assoc, append-nil, flat_map-append))) c.marks.ensures
