use Rattle.std.proofs.Common.{◌≡◌, length}
use Rattle.page_labels.specs.TextLines.{text_items}
use Rattle.page_labels.specs.Labels.{nothing}
use Rattle.page_labels.specs.LabelsOf.{item_at}
use Rattle.page_labels.specs.Steps.{each}
use Rattle.page_labels.proofs.read.lines.Given as goal

abbrev pub invariant-loop-next : goal.invariant-loop-next
invariant-loop-next l = each (item_at l.instance) nothing (text_items l.text) ≡ each (item_at l.instance) l.labels l.lines

abbrev pub decreases-loop-next : goal.decreases-loop-next
decreases-loop-next l = length l.lines
