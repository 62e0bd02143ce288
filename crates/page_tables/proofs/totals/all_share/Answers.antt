use Rattle.std.proofs.lemmas.Result.{on_ok_weaker}
use Rattle.std.proofs.Common.{◌∙◌, append_assoc, append-nil}
use Rattle.std.proofs.lemmas.Grind.{flat_map-append}
use Rattle.page_tables.specs.TotalTable.{all_share}
use Rattle.page_tables.proofs.totals.all_share.Goals as goal

pub returns : goal.returns
unfolding all_share
returns c =
    on_ok_weaker c.marks-2.result (λ e. e ∙ rw (c.in_ok-share_of.ensures, c.in_ok-marks.ensures)
    (simp (append_assoc, append-nil, flat_map-append))) c.marks-2.ensures
