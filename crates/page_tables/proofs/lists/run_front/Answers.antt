use Rattle.std.proofs.lemmas.Result.{on_ok_weaker}
use Rattle.std.proofs.Common.{◌∙◌, append_assoc, append-nil}
use Rattle.std.proofs.lemmas.Grind.{flat_map-append}
use Rattle.page_tables.specs.RunLists.{run_front}
use Rattle.page_tables.proofs.lists.run_front.Goals as goal

pub returns : goal.returns
unfolding run_front
returns c =
    on_ok_weaker c.labelled_text-3.result (λ e. e ∙ rw (c.in_ok-labelled_text-2.ensures, c.in_ok-labelled_text.ensures, c.as_slice.ensures, c.as_slice-2.ensures, c.as_slice-3.ensures)
    (simp (append_assoc, append-nil, flat_map-append))) c.labelled_text-3.ensures
