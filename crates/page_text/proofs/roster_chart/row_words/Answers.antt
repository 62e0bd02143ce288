use Rattle.std.proofs.lemmas.Result.{on_ok_weaker}
use Rattle.std.proofs.Common.{◌∙◌, append_assoc, append-nil}
use Rattle.std.proofs.lemmas.Grind.{flat_map-append}
use Rattle.page_text.specs.RosterChart.{row_words}
use Rattle.page_text.proofs.roster_chart.row_words.Goals as goal

pub returns : goal.returns
unfolding row_words
returns c =
    on_ok_weaker c.labelled_amount.result (λ e. e ∙ rw (c.in_ok-given-3.ensures, c.in_ok-given-2.ensures, c.in_ok-given.ensures, c.in_ok-who.ensures, c.gap.ensures, c.as_slice.ensures, c.as_slice-2.ensures, c.as_slice-3.ensures)
    (simp (append_assoc, append-nil, flat_map-append))) c.labelled_amount.ensures
