use Rattle.std.proofs.Common.{◌≡◌, [], length}
use Rattle.text_demand_lines.specs.Steps.{each}
use Rattle.text_demand.specs.Counts.{count_at}
use Rattle.text_demand.proofs.counts.numbers.Given as goal

abbrev pub invariant-loop-word : goal.invariant-loop-word
invariant-loop-word l = each (count_at l.line) [] l.fn.words ≡ each (count_at l.line) l.counts l.words

abbrev pub decreases-loop-word : goal.decreases-loop-word
decreases-loop-word l = length l.words
