use Rattle.std.proofs.lemmas.Result.{on_ok_weaker}
use Rattle.std.proofs.Common.{◌∙◌, append_assoc, append-nil}
use Rattle.std.proofs.lemmas.Grind.{flat_map-append}
use Rattle.page_text.specs.Costs.{demanded_cost}
use Rattle.page_text.proofs.costs.demanded_cost.Goals as goal

pub returns : goal.returns
unfolding demanded_cost
returns c =
    on_ok_weaker c.marks-2.result (λ e. e ∙ rw (c.in_ok-labelled_amount.ensures, c.in_ok-chip.ensures, c.in_ok-marks.ensures, c.penalties.ensures)
    (simp (append_assoc, append-nil, flat_map-append))) c.marks-2.ensures
