use Rattle.std.proofs.Common.{◌≡◌, false, true}
use Rattle.text_proof_pieces.specs.PieceList.{Place, wants, is_end}
use Rattle.text_proof_pieces.proofs.Ends.{end_read}
use Rattle.text_proof_pieces.proofs.next.node.Goals as goal

pub returns-clause-value : goal.returns-clause-value
returns-clause-value c =
    let p : Place = record { nodes = c.args.nodes; halves = c.args.room.now.halves } in
    let w : wants p ≡ false = cc in
    let is : is_end c.in_ok-line.line.words ≡ true = cc in
    end_read c.args.instance.now p p c.in_ok-line.line c.args.lines.now c.next_line.new.lines c.end.new.lines c.in_ok-line.ensures.line w is (c.in_ok-end.ensures c.args.instance.now p)
