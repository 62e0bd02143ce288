use Rattle.std.proofs.Common.{◌≡◌, ◌≤◌, length, reverse, vec_capacity, vec_len}
use Rattle.text_proof_pieces.specs.PieceList.{after_leaf}
use Rattle.text_proof_pieces.proofs.room.end_halves.Given as goal

abbrev pub invariant-loop-high : goal.invariant-loop-high
invariant-loop-high l = (after_leaf (reverse l.halves.items) ≡ after_leaf (reverse l.fn.halves.items)) × (length l.halves.items ≤ length l.fn.halves.items) × (vec_capacity l.fn.halves ≤ vec_capacity l.halves)

abbrev pub decreases-loop-high : goal.decreases-loop-high
decreases-loop-high l = vec_len l.halves
