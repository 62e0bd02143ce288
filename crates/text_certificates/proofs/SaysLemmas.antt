-- A text says a certificate exactly where its lines are those of the certificate.
use Rattle.std.proofs.Common.{◌≡◌, ℕ, List, length, Ok, sym, ◌∙◌, subst}
use Rattle.std.proofs.lemmas.Bool.{le-ltb}
use Rattle.text_lines.specs.Lines.{text_items}
use Rattle.text_lines.specs.Written.{numbered}
use Rattle.model_rosters.specs.declared.instance.Instance.{Instance}
use Rattle.model_rosters.specs.SoundInstance.{IsSoundInstance}
use Rattle.check_certificates.specs.declared.cert.Cert.{Cert}
use Rattle.text_proof_pieces.specs.CertOf.{proof_of, cert_pieces}
use Rattle.text_proof_pieces.specs.PieceList.{start, no_place, pieces_from, pieces_left, pieces_of}
use Rattle.text_proof_pieces.proofs.PiecesKept.{cert_sound}
use Rattle.text_certificates.specs.SaidLines.{Says}
use Rattle.text_certificates.specs.Written.{cert_lines}
use Rattle.text_certificates.proofs.CertAgain.{cert_read, collect_cert}
use Rattle.text_certificates.proofs.SaidLinesLemmas.{text_said}
use Rattle.text_certificates.proofs.SamePieces.{AllOk, written_keeps, cert_ok}

pub says : (i : Instance) (text : List ℕ) (c : Cert) → IsSoundInstance i → proof_of i text ≡ Ok c → Says i text c
says i text c s e =
    let said = text_said i text c s e in
    record { short = said.0; sound = cert_sound i text c s e; lines = said.1 }

pub said : (i : Instance) (text : List ℕ) (c : Cert) → IsSoundInstance i → Says i text c → proof_of i text ≡ Ok c
unfolding proof_of pieces_of pieces_left
said i text c s h =
    let read : pieces_from i start no_place (numbered 1 (cert_lines i c)) ≡ cert_pieces c = cert_read i c s h.sound in
    let told : pieces_from i start no_place (text_items text) ≡ cert_pieces c = written_keeps i 1 (cert_lines i c) (text_items text) h.lines start no_place (subst AllOk (sym read) (cert_ok c)) ∙ read in
    rw (le-ltb 1073741824 (length text) h.short, told) (collect_cert c)
