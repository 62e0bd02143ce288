use Rattle.std.proofs.lemmas.Result.{on_ok_weaker}
use Rattle.std.proofs.Common.{◌∙◌, append_assoc, append-nil}
use Rattle.std.proofs.lemmas.Grind.{flat_map-append}
use Rattle.page_parts.specs.Elements.{element_text}
use Rattle.page_parts.proofs.names.cut_name.Goals as goal

pub returns : goal.returns
unfolding element_text
returns c =
    on_ok_weaker c.given-2.result (λ e. e ∙ rw (c.in_ok-given.ensures)
    (simp (append_assoc, append-nil, flat_map-append))) c.given-2.ensures
