use Rattle.std.proofs.Common.{◌≡◌, ◌+◌, length}
use Rattle.text_lines.proofs.words.words_left.Given as goal

abbrev pub invariant-loop-n : goal.invariant-loop-n
invariant-loop-n l = length l.fn.words ≡ l.n + length l.words

abbrev pub decreases-loop-n : goal.decreases-loop-n
decreases-loop-n l = length l.words
