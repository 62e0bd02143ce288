use Rattle.std.proofs.Common.{◌≡◌, length}
use Rattle.text_proof_pieces.specs.PieceList.{pieces_left, Follows}
use Rattle.check_proofs.specs.Judging.{IsJudging}
use Rattle.check_proofs.proofs.walker.Walker.judge_text.Given as goal

abbrev pub invariant-loop-answer : goal.invariant-loop-answer
invariant-loop-answer l = record {
  judging : IsJudging l.instance l.text (pieces_left l.instance l.pieces l.room.halves) l.self l.seen;
  follows : Follows l.pieces l.room.halves;
  made : l.room.most ≡ l.fn.room.most;
}

abbrev pub decreases-loop-answer : goal.decreases-loop-answer
decreases-loop-answer l = length (pieces_left l.instance l.pieces l.room.halves)
