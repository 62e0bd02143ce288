use Rattle.std.proofs.Common.{None, Result, Ok, ◌∷◌, refl, sym, ap, subst, ◌∙◌}
use Rattle.text_proof_pieces.specs.declared.fault.PieceFault.{PieceFault}
use Rattle.text_proof_pieces.specs.declared.piece.Piece.{Piece}
use Rattle.text_proof_pieces.specs.PieceList.{Given, pieces_left}
use Rattle.text_proof_pieces.specs.Told.{Told, told, told_answer}
use Rattle.check_proofs.specs.declared.walker.Walker.{Walker}
use Rattle.check_proofs.specs.Stacks.{StackView}
use Rattle.check_proofs.specs.Judging.{IsJudging}
use Rattle.check_proofs.proofs.JudgingLemmas.{any-halves, nothing-judged, one-judged, is-done, all-judged, all-sound, shifts-sound}
use Rattle.check_proofs.proofs.walker.Walker.judge_text.Goals as goal

pub loop-answer-init : goal.loop-answer-init
loop-answer-init c =
    let i = c.args.instance.now in
    let b = c.requires.walker in
    let bench : Walker = record c.args.self.now { stack = c.clear.new.self } in
    let base = ap (λ (s : StackView). s.base) c.clear.ensures in
    let most = ap (λ (s : StackView). s.most) c.clear.ensures in
    let none = ap (λ (s : StackView). s.splits) c.clear.ensures in
    record {
      judging = subst (λ (g : Given). IsJudging i c.args.text.now g bench c.args.seen.now) (sym (any-halves i c.args.text.now c.new-pieces.result c.args.room.now.halves c.new-pieces.ensures.value))
          (nothing-judged i c.args.text.now bench c.args.seen.now c.requires.sound (record { tables = b.tables; rooms = b.rooms; base = base ∙ b.base }) (most ∙ c.requires.nodes) none c.requires.nothing);
      follows = c.new-pieces.ensures.follows c.args.room.now.halves;
      made = refl;
    }

pub loop-answer-preserved : goal.loop-answer-preserved
loop-answer-preserved c =
    let i = c.args.instance.now in
    let rest = pieces_left i c.next.new.self c.next.new.room.halves in
    let is = c.in-Some.ensures.given ∙ ap (λ (r : Result Piece PieceFault). told_answer c.next.new.room r ∷ rest) c.in-Ok.is in
    record {
      judging = one-judged i c.args.text.now (pieces_left i c.loop-answer.pieces c.loop-answer.room.halves) rest (told c.next.new.room c.in-Ok.piece) c.loop-answer.self c.take.new.self c.loop-answer.seen c.take.new.seen is
          (sym (c.is_end.ensures c.next.new.room) ∙ c.if-is_end.false) c.loop-answer.invariant.judging c.take.ensures;
      follows = c.in-Some.ensures.follows;
      made = c.in-Some.ensures.made ∙ c.loop-answer.invariant.made;
    }

pub verdict-requires-clause-shifts : goal.verdict-requires-clause-shifts
verdict-requires-clause-shifts c =
    let i = c.args.instance.now in
    let rest = pieces_left i c.next.new.self c.next.new.room.halves in
    let end = is-done (told c.next.new.room c.in-Ok.piece) (sym (c.is_end.ensures c.next.new.room) ∙ c.if-is_end.true) in
    let is = c.in-Some.ensures.given ∙ ap (λ (r : Result Piece PieceFault). told_answer c.next.new.room r ∷ rest) c.in-Ok.is ∙ ap (λ (t : Told). Ok t ∷ rest) end in
    let s = shifts-sound i c.args.text.now (pieces_left i c.loop-answer.pieces c.loop-answer.room.halves) rest c.loop-answer.self c.loop-answer.seen c.requires.sound is c.loop-answer.invariant.judging in
    s.0

pub verdict-requires-clause-few : goal.verdict-requires-clause-few
verdict-requires-clause-few c =
    let i = c.args.instance.now in
    let rest = pieces_left i c.next.new.self c.next.new.room.halves in
    let end = is-done (told c.next.new.room c.in-Ok.piece) (sym (c.is_end.ensures c.next.new.room) ∙ c.if-is_end.true) in
    let is = c.in-Some.ensures.given ∙ ap (λ (r : Result Piece PieceFault). told_answer c.next.new.room r ∷ rest) c.in-Ok.is ∙ ap (λ (t : Told). Ok t ∷ rest) end in
    let s = shifts-sound i c.args.text.now (pieces_left i c.loop-answer.pieces c.loop-answer.room.halves) rest c.loop-answer.self c.loop-answer.seen c.requires.sound is c.loop-answer.invariant.judging in
    s.1

pub returns-then-is_end-clause-judged : goal.returns-then-is_end-clause-judged
returns-then-is_end-clause-judged c =
    let i = c.args.instance.now in
    let j = c.loop-answer.invariant.judging in
    let left = pieces_left i c.loop-answer.pieces c.loop-answer.room.halves in
    let rest = pieces_left i c.next.new.self c.next.new.room.halves in
    let end = is-done (told c.next.new.room c.in-Ok.piece) (sym (c.is_end.ensures c.next.new.room) ∙ c.if-is_end.true) in
    let is = c.in-Some.ensures.given ∙ ap (λ (r : Result Piece PieceFault). told_answer c.next.new.room r ∷ rest) c.in-Ok.is ∙ ap (λ (t : Told). Ok t ∷ rest) end in
    let value = all-judged i c.args.text.now left rest c.loop-answer.self c.loop-answer.seen is j in
    let sound = all-sound i c.args.text.now left rest c.loop-answer.self c.loop-answer.seen c.requires.sound is j in
    (j.cert, value, c.verdict.ensures.verdict j.cert sound j.seen)
