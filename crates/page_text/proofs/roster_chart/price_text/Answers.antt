use Rattle.std.proofs.lemmas.Result.{on_ok_weaker}
use Rattle.std.proofs.Common.{◌∙◌, append_assoc, append-nil}
use Rattle.std.proofs.lemmas.Grind.{flat_map-append}
use Rattle.page_text.specs.RosterChart.{price_text}
use Rattle.page_text.proofs.roster_chart.price_text.Goals as goal

pub returns : goal.returns
unfolding price_text
returns c =
    on_ok_weaker c.marks.result (λ e. e ∙ rw (c.in_ok-labelled_amount.ensures, c.in_ok-labelled-2.ensures, c.in_ok-labelled.ensures, c.top_of.ensures.value, c.saturating_sub-left.ensures, c.chart_width.ensures)
    (simp (append_assoc, append-nil, flat_map-append))) c.marks.ensures
