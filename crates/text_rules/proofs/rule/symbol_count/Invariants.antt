use Rattle.std.proofs.Common.{◌≡◌, ◌+◌, length}
use Rattle.text_rules.specs.RuleLine.{symbol_count}
use Rattle.text_rules.proofs.rule.symbol_count.Given as goal

abbrev pub invariant-loop-word : goal.invariant-loop-word
invariant-loop-word l = (symbol_count l.fn.words ≡ l.n + symbol_count l.words) × (length l.fn.words ≡ l.n + length l.words)

abbrev pub decreases-loop-word : goal.decreases-loop-word
decreases-loop-word l = length l.words
