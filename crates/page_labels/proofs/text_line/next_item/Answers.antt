use Rattle.std.proofs.Common.{◌∙◌, sym, arith}
use Rattle.page_labels.proofs.TextLineItems.{rest_items_none, bad_line, blank_line, word_line}
use Rattle.page_labels.proofs.text_line.next_item.Goals as goal

pub returns-then-not-is_body-clause-item : goal.returns-then-not-is_body-clause-item
returns-then-not-is_body-clause-item c = c.loop-line.invariant.0 ∙ bad_line _ _ _ _ _ c.in-Some.ensures.first c.without_comment-body.ensures (sym c.if-not-is_body.ensures)

pub loop-line-preserved : goal.loop-line-preserved
loop-line-preserved c = (c.loop-line.invariant.0 ∙ blank_line _ _ _ _ _ c.in-Some.ensures.first c.without_comment-body.ensures (sym c.if-not-is_body.ensures) (sym c.new.ensures ∙ c.in_default-next.ensures.0), omega (arith, c.in-Some.ensures.shorter))

pub returns-clause-item : goal.returns-clause-item
returns-clause-item c = c.loop-line.invariant.0 ∙ rest_items_none _ _ c.in_default.ensures.first

pub returns-in-Some-next-clause-item : goal.returns-in-Some-next-clause-item
returns-in-Some-next-clause-item c = rw c.new-in-Some-next.ensures (c.loop-line.invariant.0 ∙ word_line _ _ _ _ _ _ _ c.in-Some.ensures.first c.without_comment-body.ensures (sym c.if-not-is_body.ensures) (sym c.new.ensures ∙ c.in-Some-next.ensures))
