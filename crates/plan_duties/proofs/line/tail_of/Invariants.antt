use Rattle.std.proofs.Common.{◌≡◌, length}
use Rattle.plan_duties.specs.DutyLines.{tail_at}
use Rattle.plan_duties.specs.Tails.{no_tail}
use Rattle.plan_duties.proofs.line.tail_of.Given as goal

abbrev pub invariant-loop-word : goal.invariant-loop-word
invariant-loop-word l = tail_at l.day l.decimals l.codes no_tail 0 l.fn.words ≡ tail_at l.day l.decimals l.codes l.tail 0 l.words

abbrev pub decreases-loop-word : goal.decreases-loop-word
decreases-loop-word l = length l.words
