use Rattle.std.proofs.Common.{◌≡◌, length}
use Rattle.text_rules.specs.Lines.{declare_at}
use Rattle.text_rules.specs.Steps.{each}
use Rattle.text_rules.proofs.line.declare_all.Given as goal

abbrev pub invariant-loop-word : goal.invariant-loop-word
invariant-loop-word l = each (declare_at l.line l.work) l.fn.codes l.fn.words ≡ each (declare_at l.line l.work) l.codes l.words

abbrev pub decreases-loop-word : goal.decreases-loop-word
decreases-loop-word l = length l.words
