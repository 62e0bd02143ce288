use Rattle.std.proofs.Common.{◌≡◌, Bool, List, [], ℕ, arith, ap, refl}
use Rattle.check_certificates.specs.declared.cert.Cert.{Cert}
use Rattle.model_rosters.specs.declared.instance.Instance.{Instance}
use Rattle.text_proof_pieces.specs.CertOf.{no_cert, collected}
use Rattle.text_proof_pieces.specs.PieceList.{Reader, text_reader, pieces_left, pieces_of}
use Rattle.text_proof_pieces.specs.Told.{RoomView}
use Rattle.text_certificates.proofs.read.collect.Goals as goal

begins : (i : Instance) (text : List ℕ) (r : Reader) (halves : List Bool) (c : Cert) → c ≡ no_cert → r ≡ text_reader text → halves ≡ []
    → collected no_cert (pieces_of i text) ≡ collected c (pieces_left i r halves)
unfolding pieces_of
begins i text r halves c e f h = rw (e, f, h) refl

pub loop-answer-init : goal.loop-answer-init
loop-answer-init c = record {
  value = begins c.args.instance.now c.args.text.now c.new-pieces.result c.in_ok-room.room.halves c.no_cert-cert.result c.no_cert-cert.ensures c.new-pieces.ensures.value (ap (λ (r : RoomView). r.halves) c.in_ok-room.ensures);
  follows = c.new-pieces.ensures.follows c.in_ok-room.room.halves;
  made = omega (arith, ap (λ (r : RoomView). r.most) c.in_ok-room.ensures);
}
