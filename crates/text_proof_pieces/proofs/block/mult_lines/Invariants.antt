use Rattle.std.proofs.Common.{◌≡◌, ◌+◌, ℕ, [], length}
use Rattle.model_rosters.specs.Cuts.{base_cuts}
use Rattle.text_proof_pieces.specs.declared.node.NodeLine.{NodeLine}
use Rattle.text_proof_pieces.specs.PieceList.{block, pieces_from}
use Rattle.text_proof_pieces.proofs.block.mult_lines.Given as goal

abbrev pub invariant-loop-line : goal.invariant-loop-line
invariant-loop-line l = record {
  value : (h : NodeLine) (n : ℕ) → pieces_from l.instance (block h l.fn.room.cell []) (record { nodes = n; halves = l.fn.room.halves }) l.fn.lines
      ≡ pieces_from l.instance (block h l.fn.room.cell l.room.mult) (record { nodes = n; halves = l.fn.room.halves }) l.lines;
  cuts : l.cuts ≡ length (base_cuts l.instance) + length l.fn.room.halves;
  kept : l.room ≡ record l.fn.room { mult = l.room.mult };
}

abbrev pub decreases-loop-line : goal.decreases-loop-line
decreases-loop-line l = length l.lines
