use Rattle.std.proofs.lemmas.Result.{on_ok_weaker}
use Rattle.std.proofs.Common.{◌∙◌, append_assoc, append-nil}
use Rattle.std.proofs.lemmas.Grind.{flat_map-append}
use Rattle.page_text.specs.Pages.{chart_body}
use Rattle.page_text.proofs.page.chart_body.Goals as goal

pub returns : goal.returns
unfolding chart_body
returns c =
    on_ok_weaker c.marks.result (λ e. e ∙ rw (c.in_ok-ticks.ensures, c.in_ok-lines.ensures, c.in_ok-frame.ensures, c.in_ok-inked.ensures)
    (simp (append_assoc, append-nil, flat_map-append))) c.marks.ensures
