use Rattle.std.proofs.Common.{length}
use Rattle.command_texts.proofs.text_places.has_word.Given as goal

abbrev pub decreases-loop-other : goal.decreases-loop-other
decreases-loop-other l = length l.words
