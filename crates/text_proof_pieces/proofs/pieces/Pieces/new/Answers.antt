use Rattle.text_proof_pieces.proofs.LongTexts.{too_long_reader}
use Rattle.text_proof_pieces.proofs.pieces.Pieces.new.Goals as goal

pub returns-then-text-gt-MOST_TEXT-clause-value : goal.returns-then-text-gt-MOST_TEXT-clause-value
returns-then-text-gt-MOST_TEXT-clause-value c = too_long_reader c.args.text.now c.new.result c.if-text-gt-MOST_TEXT.true c.new.ensures
