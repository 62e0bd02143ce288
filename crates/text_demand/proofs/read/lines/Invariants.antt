use Rattle.std.proofs.Common.{◌≡◌, length}
use Rattle.text_lines.specs.Lines.{text_items}
use Rattle.text_demand_lines.specs.Steps.{each}
use Rattle.text_demand.specs.Lines.{item_at}
use Rattle.text_demand.specs.InstanceOf.{no_draft}
use Rattle.text_demand.proofs.read.lines.Given as goal

abbrev pub invariant-loop-next : goal.invariant-loop-next
invariant-loop-next l = each (item_at l.grammar) no_draft (text_items l.text) ≡ each (item_at l.grammar) l.draft l.lines

abbrev pub decreases-loop-next : goal.decreases-loop-next
decreases-loop-next l = length l.lines
