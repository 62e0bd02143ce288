use Rattle.std.proofs.lemmas.Result.{on_ok_weaker}
use Rattle.std.proofs.Common.{◌∙◌, append_assoc, append-nil}
use Rattle.std.proofs.lemmas.Grind.{flat_map-append}
use Rattle.page_tables.specs.TotalTable.{share_of}
use Rattle.page_tables.proofs.totals.share_of.Goals as goal

pub returns : goal.returns
unfolding share_of
returns c =
    on_ok_weaker c.marks.result (λ e. e ∙ rw (c.in_ok-labelled.ensures, c.in_ok-number.ensures)
    (simp (append_assoc, append-nil, flat_map-append))) c.marks.ensures
