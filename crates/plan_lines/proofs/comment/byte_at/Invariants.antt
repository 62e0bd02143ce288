use Rattle.std.proofs.Common.{◌≡◌, ℕ, ◌<◌, false, get_or, eqb}
use Rattle.plan_lines.proofs.comment.byte_at.Given as goal

abbrev pub invariant-loop-i : goal.invariant-loop-i
invariant-loop-i l = (k : ℕ) → k < l.i → eqb (get_or l.bytes k 0) l.byte ≡ false
