use Rattle.std.proofs.lemmas.Result.{on_ok_weaker}
use Rattle.std.proofs.Common.{◌∙◌, append_assoc, append-nil}
use Rattle.page_text.specs.RosterChart.{one}
use Rattle.page_text.proofs.roster_chart.one.Goals as goal

pub returns : goal.returns
unfolding one
returns c =
    on_ok_weaker c.marks.result (λ e. e ∙ rw (c.in_ok-labelled.ensures)
    (simp (append_assoc, append-nil))) c.marks.ensures
