use Rattle.std.proofs.Common.{◌≡◌, length}
use Rattle.plan_cells.specs.Lines.{text_lines}
use Rattle.plan_lines.specs.Plans.{each, item_at}
use Rattle.plan_lines.specs.Readings.{nothing}
use Rattle.plan_lines.proofs.read.reading_of.Given as goal

abbrev pub invariant-loop-line : goal.invariant-loop-line
invariant-loop-line l = each item_at nothing (text_lines l.text) ≡ each item_at l.reading l.lines

abbrev pub decreases-loop-line : goal.decreases-loop-line
decreases-loop-line l = length l.lines
