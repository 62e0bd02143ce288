use Rattle.std.proofs.Common.{append_assoc, append-nil}
use Rattle.page_parts.specs.Elements.{element_text}
use Rattle.page_parts.proofs.element.bar.Goals as goal

pub returns : goal.returns
unfolding element_text
returns c =
    rw (c.in_ok-put-3.ensures.ok, c.in_ok-area_text.ensures, c.in_ok-put-2.ensures.ok, c.in_ok-put.ensures.ok) (simp (append_assoc, append-nil))
