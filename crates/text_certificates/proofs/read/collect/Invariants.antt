use Rattle.std.proofs.Common.{◌≡◌, ◌≤◌, length}
use Rattle.text_proof_pieces.specs.CertOf.{no_cert, collected}
use Rattle.text_proof_pieces.specs.PieceList.{pieces_left, pieces_of, Follows}
use Rattle.text_certificates.proofs.read.collect.Given as goal

abbrev pub invariant-loop-answer : goal.invariant-loop-answer
invariant-loop-answer l = record {
  value : collected no_cert (pieces_of l.instance l.text) ≡ collected l.cert (pieces_left l.instance l.pieces l.room.halves);
  follows : Follows l.pieces l.room.halves;
  made : length l.instance.cells ≤ l.room.most;
}

abbrev pub decreases-loop-answer : goal.decreases-loop-answer
decreases-loop-answer l = length (pieces_left l.instance l.pieces l.room.halves)
