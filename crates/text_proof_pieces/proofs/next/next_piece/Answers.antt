use Rattle.text_proof_pieces.proofs.Ends.{too_long_alone}
use Rattle.text_proof_pieces.proofs.next.next_piece.Goals as goal

pub returns-in-TooLong-clause-value : goal.returns-in-TooLong-clause-value
returns-in-TooLong-clause-value c =
    rw c.in-TooLong.is (too_long_alone c.args.instance.now (record { nodes = c.args.nodes; halves = c.args.room.now.halves }) c.args.lines.now)
