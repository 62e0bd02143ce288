use Rattle.std.proofs.lemmas.Result.{on_ok_weaker}
use Rattle.std.proofs.Common.{◌∙◌, append_assoc, append-nil}
use Rattle.std.proofs.lemmas.Grind.{flat_map-append}
use Rattle.page_text.specs.Pages.{foot}
use Rattle.page_text.proofs.page.foot.Goals as goal

pub returns : goal.returns
unfolding foot
returns c =
    on_ok_weaker c.marks-4.result (λ e. e ∙ rw (c.in_ok-read_lines.ensures, c.in_ok-marks-3.ensures, c.in_ok-marks-2.ensures, c.in_ok-marks.ensures, c.check_command.ensures)
    (simp (append_assoc, append-nil, flat_map-append))) c.marks-4.ensures
