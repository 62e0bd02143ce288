use Rattle.std.proofs.Common.{length}
use Rattle.command_texts.proofs.text_places.marked_line.Given as goal

abbrev pub decreases-loop-item : goal.decreases-loop-item
decreases-loop-item l = length l.lines
