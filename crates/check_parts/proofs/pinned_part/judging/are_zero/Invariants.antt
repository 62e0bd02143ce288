use Rattle.std.proofs.Common.{◌≡◌, ◌≢◌, ℕ, ◌<◌, pos, get_or}
use Rattle.model_rosters.specs.arc_laws.OrNodes.{root_of}
use Rattle.check_parts.specs.pinned_part.Places.{node_place}
use Rattle.check_parts.proofs.pinned_part.judging.are_zero.Given as goal

abbrev pub invariant-loop-place : goal.invariant-loop-place
invariant-loop-place l = (p : ℕ) → p < l.place → p ≢ node_place l.grammar (root_of l.grammar) → get_or l.nodes p (pos 0) ≡ pos 0
