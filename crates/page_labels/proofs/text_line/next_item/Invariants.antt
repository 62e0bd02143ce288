use Rattle.std.proofs.Common.{◌≡◌, ◌<◌, ◌+◌, ◌^◌, length}
use Rattle.page_labels.specs.TextLines.{rest_items}
use Rattle.page_labels.proofs.text_line.next_item.Given as goal

abbrev pub invariant-loop-line : goal.invariant-loop-line
invariant-loop-line l = (rest_items (l.fn.passed + 1) l.fn.text ≡ rest_items (l.passed + 1) l.text) × (l.passed + length l.text < 2 ^ 32)

abbrev pub decreases-loop-line : goal.decreases-loop-line
decreases-loop-line l = length l.text
