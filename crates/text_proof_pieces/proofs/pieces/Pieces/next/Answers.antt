use Rattle.std.proofs.Common.{◌≡◌, refl, sym, ap, ◌∙◌}
use Rattle.text_proof_pieces.specs.PieceList.{Reader}
use Rattle.text_proof_pieces.specs.declared.stage.Stage.TheVariants.{Over}
use Rattle.text_proof_pieces.proofs.Ends.{nothing_left, fault_left}
use Rattle.text_proof_pieces.proofs.pieces.Pieces.next.Goals as goal

pub returns-in-None-clause-given : goal.returns-in-None-clause-given
returns-in-None-clause-given c =
    let over : c.args.self.now.stage ≡ Over = sym (ap (λ (r : Reader). r.stage) c.self.view_is) ∙ c.in-None.ensures.value in
    let rest : Reader = record { left = c.next_piece.new.lines; stage = c.self.inside.stage; nodes_before = c.self.inside.nodes } in
    (nothing_left c.args.instance.now c.args.self.now c.args.room.now.halves over, nothing_left c.args.instance.now rest c.next_piece.new.room.halves c.in-None.ensures.value)

pub returns-in-Some-Err-clause-given : goal.returns-in-Some-Err-clause-given
returns-in-Some-Err-clause-given c =
    let before : Reader = record { left = c.self.inside.lines; stage = c.self.inside.stage; nodes_before = c.self.inside.nodes } in
    let rest : Reader = record { left = c.next_piece.new.lines; stage = Over; nodes_before = c.self.inside.nodes } in
    fault_left c.args.instance.now c.args.self.now before rest c.args.room.now.halves c.next_piece.new.room.halves c.in-Some-Err.fault c.self.view_is
    (rw c.in-Some-Err.field-0-is at c.in-Some-Err.ensures.value) refl
