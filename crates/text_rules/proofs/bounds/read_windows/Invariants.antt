use Rattle.std.proofs.Common.{◌≡◌, length}
use Rattle.text_rules.specs.RuleLine.{windows_at, no_windows}
use Rattle.text_rules.proofs.bounds.read_windows.Given as goal

abbrev pub invariant-loop-word : goal.invariant-loop-word
invariant-loop-word l = windows_at l.line no_windows l.fn.words ≡ windows_at l.line l.windows l.words

abbrev pub decreases-loop-word : goal.decreases-loop-word
decreases-loop-word l = length l.words
