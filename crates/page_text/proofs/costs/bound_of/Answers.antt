use Rattle.std.proofs.lemmas.Result.{on_ok_weaker}
use Rattle.std.proofs.Common.{◌∙◌, append_assoc, append-nil}
use Rattle.std.proofs.lemmas.Grind.{flat_map-append}
use Rattle.page_text.specs.Costs.{bound_of}
use Rattle.page_text.proofs.costs.bound_of.Goals as goal

pub returns : goal.returns
unfolding bound_of
returns c =
    on_ok_weaker c.marks.result (λ e. e ∙ rw (c.in_ok-labelled_or_none.ensures)
    (simp (append_assoc, append-nil, flat_map-append))) c.marks.ensures
