use Rattle.std.proofs.Common.{length}
use Rattle.text_fault_notes.proofs.lines.listed.Given as goal

abbrev pub decreases-loop-word : goal.decreases-loop-word
decreases-loop-word l = length l.words
