use Rattle.std.proofs.lemmas.Result.{on_ok_weaker}
use Rattle.std.proofs.Common.{◌∙◌, append_assoc, append-nil}
use Rattle.std.proofs.lemmas.Grind.{flat_map-append}
use Rattle.page_text.specs.Charts.{limit_lines}
use Rattle.page_text.proofs.chart.limit_lines.Goals as goal

pub returns : goal.returns
unfolding limit_lines
returns c =
    on_ok_weaker c.marks-3.result (λ e. e ∙ rw (c.in_ok-inked-2.ensures, c.in_ok-marks-2.ensures, c.in_ok-inked.ensures, c.in_ok-marks.ensures)
    (simp (append_assoc, append-nil, flat_map-append))) c.marks-3.ensures
