-- A text that is too long has no line that is read.
use Rattle.std.proofs.Common.{◌≡◌, ◌<◌, List, [], ℕ, length, refl}
use Rattle.std.proofs.lemmas.Bool.{lt-ltb}
use Rattle.text_lines.specs.Lines.{text_items}
use Rattle.text_lines.proofs.LineItems.{rest_items_none}
use Rattle.text_proof_pieces.specs.Items.{Items}
use Rattle.text_proof_pieces.specs.PieceList.{text_reader}
use Rattle.text_proof_pieces.specs.declared.stage.Stage.TheVariants.{TooLong}

pub too_long_reader : (text : List ℕ) (items : Items) → 1073741824 < length text → items ≡ text_items [] → record { left = items; stage = TooLong; nodes_before = 0 } ≡ text_reader text
too_long_reader text items lt e = rw (lt-ltb 1073741824 (length text) lt, e, rest_items_none 1 [] refl) refl
