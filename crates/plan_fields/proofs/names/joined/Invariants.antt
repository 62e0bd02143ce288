use Rattle.std.proofs.Common.{◌≡◌, ◌++◌, length}
use Rattle.text_lines.specs.Written.{tail}
use Rattle.plan_fields.specs.Names.{joined}
use Rattle.plan_fields.proofs.names.joined.Given as goal

abbrev pub invariant-loop-next : goal.invariant-loop-next
invariant-loop-next l = joined l.fn.words ≡ l.out ++ tail l.words

abbrev pub decreases-loop-next : goal.decreases-loop-next
decreases-loop-next l = length l.words
