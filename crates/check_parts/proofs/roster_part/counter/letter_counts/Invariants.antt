use Rattle.check_parts.proofs.roster_part.CountersLemmas.{AreTallied}
use Rattle.check_parts.proofs.roster_part.counter.letter_counts.Given as goal

abbrev pub invariant-loop-shift : goal.invariant-loop-shift
invariant-loop-shift l = AreTallied l.byte l.shifts l.counts l.shift-index
