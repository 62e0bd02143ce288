use Rattle.std.proofs.lemmas.Result.{on_ok_weaker}
use Rattle.std.proofs.Common.{◌∙◌, append_assoc, append-nil}
use Rattle.std.proofs.lemmas.Grind.{flat_map-append}
use Rattle.page_text.specs.Changes.{some_differ}
use Rattle.page_text.proofs.changes.some_differ.Goals as goal

pub returns : goal.returns
unfolding some_differ
returns c =
    on_ok_weaker c.marks-5.result (λ e. e ∙ rw (c.in_ok-marks-4.ensures, c.in_ok-marks-3.ensures, c.in_ok-labelled-2.ensures, c.in_ok-marks-2.ensures, c.in_ok-marks.ensures, c.in_ok-labelled.ensures, c.plural.ensures, c.plural-2.ensures)
    (simp (append_assoc, append-nil, flat_map-append))) c.marks-5.ensures
