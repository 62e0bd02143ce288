use Rattle.std.proofs.Common.{◌≡◌, [], length}
use Rattle.text_lines.specs.Lines.{text_items}
use Rattle.check_values.specs.stated_rosters.RosterOf.{item_at}
use Rattle.check_values.specs.stated_rosters.Steps.{each}
use Rattle.check_values.proofs.stated_rosters.read.lines.Given as goal

abbrev pub invariant-loop-next : goal.invariant-loop-next
invariant-loop-next l = each (item_at l.instance l.report) [] (text_items l.text) ≡ each (item_at l.instance l.report) l.shifts l.lines

abbrev pub decreases-loop-next : goal.decreases-loop-next
decreases-loop-next l = length l.lines
