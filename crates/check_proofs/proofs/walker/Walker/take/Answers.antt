use Rattle.std.proofs.Common.{◌≡◌, length, sym, ap, subst}
use Rattle.std.proofs.Common.{◌∷◌, ◌++◌, []}
use Rattle.model_rosters.specs.declared.instance.Shift.{Shift}
use Rattle.text_proof_pieces.specs.declared.piece.Piece.{Piece}
use Rattle.text_proof_pieces.specs.Told.{Told, cost, bound, shift, told}
use Rattle.text_proof_pieces.specs.ToldSound.{IsToldSound}
use Rattle.check_proofs.specs.Judging.{place_at}
use Rattle.check_proofs.proofs.JudgingLemmas.{retold, cost-taken, bound-taken, shift-taken}
use Rattle.check_proofs.proofs.walker.Walker.take.Goals as goal

pub returns-in-Cost : goal.returns-in-Cost
returns-in-Cost c =
    let i = c.args.instance.now in
    let same = sym (ap (λ (p : Piece). told c.args.room.now p) c.in-Cost.is) in
    retold i c.args.self.now c.args.seen.now (cost c.in-Cost.cost) (told c.args.room.now c.args.piece) c.args.self.now (record c.args.seen.now { cost = c.in-Cost.cost }) same (cost-taken i c.args.self.now c.args.seen.now c.in-Cost.cost c.requires.ready)

pub returns-in-Bound : goal.returns-in-Bound
returns-in-Bound c =
    let i = c.args.instance.now in
    let same = sym (ap (λ (p : Piece). told c.args.room.now p) c.in-Bound.is) in
    retold i c.args.self.now c.args.seen.now (bound c.in-Bound.bound) (told c.args.room.now c.args.piece) c.args.self.now (record c.args.seen.now { bound = c.in-Bound.bound }) same (bound-taken i c.args.self.now c.args.seen.now c.in-Bound.bound c.requires.ready)

pub returns-in-Shift : goal.returns-in-Shift
returns-in-Shift c =
    let i = c.args.instance.now in
    let old = c.args.seen.now in
    let is = ap (λ (p : Piece). told c.args.room.now p) c.in-Shift.is in
    let x : Shift = record { group = c.in-Shift.group; word = c.args.room.now.word; price = c.in-Shift.price } in
    let sound = subst (λ (t : Told). IsToldSound i (length old.shifts) (place_at c.args.self.now.stack old.walk) t) is c.requires.told in
    let kept : c.keep.new.self ≡ old.shifts ++ x ∷ [] = rw c.word.ensures at c.keep.ensures in
    retold i c.args.self.now old (shift x) (told c.args.room.now c.args.piece) c.args.self.now (record old { shifts = c.keep.new.self }) (sym is) (shift-taken i c.args.self.now old x c.keep.new.self c.requires.ready kept)
