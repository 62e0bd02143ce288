use Rattle.std.proofs.lemmas.Result.{on_ok_weaker}
use Rattle.std.proofs.Common.{◌∙◌, append_assoc, append-nil}
use Rattle.page_text.specs.RosterChart.{times_of}
use Rattle.page_text.proofs.roster_chart.times_of.Goals as goal

pub returns : goal.returns
unfolding times_of
returns c =
    on_ok_weaker c.marks.result (λ e. e ∙ rw (c.in_ok-labelled-2.ensures, c.in_ok-labelled.ensures, c.top_of.ensures.value)
    (simp (append_assoc, append-nil))) c.marks.ensures
