use Rattle.std.proofs.lemmas.Result.{on_ok_weaker}
use Rattle.std.proofs.Common.{◌∙◌, append_assoc, append-nil}
use Rattle.std.proofs.lemmas.Grind.{flat_map-append}
use Rattle.page_text.specs.Costs.{costs}
use Rattle.page_text.proofs.costs.costs.Goals as goal

pub returns : goal.returns
unfolding costs
returns c =
    on_ok_weaker c.marks-2.result (λ e. e ∙ rw (c.in_ok-code_costs.ensures, c.in_ok-sums.ensures, c.in_ok-bound_part.ensures, c.in_ok-marks.ensures, c.in_ok-labelled_or_none.ensures)
    (simp (append_assoc, append-nil, flat_map-append))) c.marks-2.ensures
