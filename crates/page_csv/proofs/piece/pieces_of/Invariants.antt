use Rattle.std.proofs.Common.{◌≡◌, ◌++◌, drop}
use Rattle.page_csv.specs.Pieces.{pieces_from, pieces_of}
use Rattle.page_csv.proofs.piece.pieces_of.Given as goal

abbrev pub invariant-loop-byte : goal.invariant-loop-byte
invariant-loop-byte l = record {
  pieces : pieces_of l.word ≡ l.pieces ++ pieces_from l.live l.passed (drop l.byte-index l.word);
  passed : l.passed ≡ l.byte-index;
}
