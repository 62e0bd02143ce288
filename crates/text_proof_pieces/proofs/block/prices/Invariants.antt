use Rattle.std.proofs.Common.{◌≡◌, ◌+◌, length}
use Rattle.text_lines.specs.Steps.{each}
use Rattle.text_proof_pieces.specs.PriceLines.{price_step}
use Rattle.text_proof_pieces.proofs.block.prices.Given as goal

abbrev pub invariant-loop-word : goal.invariant-loop-word
invariant-loop-word l = record {
  value : each (price_step l.line) l.fn.room.cell l.fn.words ≡ each (price_step l.line) l.room.cell l.words;
  long : length l.room.cell + length l.words ≡ length l.fn.room.cell + length l.fn.words;
  kept : l.room ≡ record l.fn.room { cell = l.room.cell };
}

abbrev pub decreases-loop-word : goal.decreases-loop-word
decreases-loop-word l = length l.words
