use Rattle.std.proofs.Common.{◌≡◌, [], length}
use Rattle.text_proof_pieces.specs.declared.node.NodeLine.{NodeLine}
use Rattle.text_proof_pieces.specs.PieceList.{Place, block, pieces_from}
use Rattle.text_proof_pieces.proofs.PriceBlock.{AreWhole}
use Rattle.text_proof_pieces.proofs.block.price_lines.Given as goal

abbrev pub invariant-loop-lines : goal.invariant-loop-lines
invariant-loop-lines l = record {
  value : (h : NodeLine) (p : Place) → pieces_from l.instance (block h [] []) p l.fn.lines ≡ pieces_from l.instance (block h l.room.cell []) p l.lines;
  whole : AreWhole l.instance.grammar.periods (length l.instance.cells) (length l.room.cell);
  kept : l.room ≡ record l.fn.room { cell = l.room.cell };
}

abbrev pub decreases-loop-lines : goal.decreases-loop-lines
decreases-loop-lines l = length l.lines
