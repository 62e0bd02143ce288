use Rattle.std.proofs.Common.{ℕ, ◌+◌, ap}
use Rattle.page_csv.proofs.PieceLoop.{one_more}
use Rattle.page_csv.proofs.piece.pieces_of.Goals as goal

pub loop-byte-preserved : goal.loop-byte-preserved
loop-byte-preserved c = record {
  pieces = one_more c.args.word.now c.loop-byte.byte-index c.loop-byte.passed 0 c.loop-byte.pieces c.end.new.pieces c.loop-byte.live c.grown.result c.loop-byte-test.true c.loop-byte.invariant.pieces c.in_ok-end.ensures c.grown.ensures;
  passed = ap (λ (n : ℕ). n + 1) c.loop-byte.invariant.passed;
}
