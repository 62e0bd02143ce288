use Rattle.std.proofs.Common.{◌≡◌, length}
use Rattle.text_rules.specs.RuleLine.{are_windows}
use Rattle.text_rules.proofs.bounds.are_windows.Given as goal

abbrev pub invariant-loop-word : goal.invariant-loop-word
invariant-loop-word l = are_windows l.fn.words ≡ are_windows l.words

abbrev pub decreases-loop-word : goal.decreases-loop-word
decreases-loop-word l = length l.words
