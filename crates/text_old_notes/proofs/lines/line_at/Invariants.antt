use Rattle.std.proofs.Common.{length}
use Rattle.text_old_notes.proofs.lines.line_at.Given as goal

abbrev pub decreases-loop-item : goal.decreases-loop-item
decreases-loop-item l = length l.lines
