use Rattle.std.proofs.lemmas.Result.{on_ok_weaker}
use Rattle.std.proofs.Common.{◌∙◌, append_assoc, append-nil}
use Rattle.std.proofs.lemmas.Grind.{flat_map-append}
use Rattle.page_tables.specs.RunLists.{run_end}
use Rattle.page_tables.proofs.lists.run_end.Goals as goal

pub returns : goal.returns
unfolding run_end
returns c =
    on_ok_weaker c.marks.result (λ e. e ∙ rw (c.in_ok-labelled_amount.ensures, c.in_ok-labelled.ensures)
    (simp (append_assoc, append-nil, flat_map-append))) c.marks.ensures
