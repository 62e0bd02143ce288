-- A proof text and its first bytes, up to one above the limit, are read alike.
use Rattle.std.proofs.Common.{◌≡◌, ◌∙◌, ◌<◌, ℕ, List, [], Ok, Err, length, arith, ap, refl, sym}
use Rattle.model_rosters.specs.declared.instance.Instance.{Instance}
use Rattle.check_certificates.specs.declared.cert.Cert.{Cert}
use Rattle.text_lines.specs.Lines.{text_items}
use Rattle.text_proof_pieces.specs.CertOf.{proof_of, collected, no_cert}
use Rattle.text_proof_pieces.specs.PieceList.{Reader, pieces_of, pieces_left, text_reader}
use Rattle.text_proof_pieces.specs.declared.fault.ProofFault.TheVariants as faults
use Rattle.text_proof_pieces.specs.declared.stage.Stage.TheVariants.{TooLong, Start}
use Rattle.command_shelf.specs.Shelf.{front_to}
use Rattle.command_answers.specs.Fronts.{alike, over_limit}
use Rattle.command_answers.specs.Readings.{SaysProofFault}
use Rattle.command_answers.specs.Asked.{CertAnswers, ProofAnswers}
use Rattle.command_answers.specs.Asked as asked

reader-alike : (text : List ℕ) → text_reader (front_to 1073741824 text) ≡ text_reader text
reader-alike text = alike 1073741824 1073741824 refusal reading text (omega arith)
  where
    refusal : Reader
    refusal = record { left = []; stage = TooLong; nodes_before = 0 }

    reading : List ℕ → Reader
    reading t = record { left = text_items t; stage = Start; nodes_before = 0 }

pub proof-alike : (i : Instance) (text : List ℕ) → proof_of i (front_to 1073741824 text) ≡ proof_of i text
unfolding proof_of pieces_of
proof-alike i text = ap (λ (r : Reader). collected no_cert (pieces_left i r [])) (reader-alike text)

abbrev no_lines : Reader
no_lines = record { left = []; stage = TooLong; nodes_before = 0 }

long-reader : (text : List ℕ) → 1073741824 < length text → text_reader text ≡ no_lines
long-reader text lt = over_limit 1073741824 no_lines reading text lt
  where
    reading : List ℕ → Reader
    reading t = record { left = text_items t; stage = Start; nodes_before = 0 }

no-lines-told : (i : Instance) → collected no_cert (pieces_left i no_lines []) ≡ Err faults.TooLong
unfolding pieces_left
no-lines-told i = refl

-- a text over the limit has no certificate
pub long-proof : (i : Instance) (text : List ℕ) (c : Cert) → 1073741824 < length text → proof_of i text ≡ Ok c → ⊥
unfolding proof_of pieces_of
long-proof i text c lt e =
    let refused : proof_of i text ≡ Err faults.TooLong =
    ap (λ (r : Reader). collected no_cert (pieces_left i r [])) (long-reader text lt) ∙ no-lines-told i in
    let clash : Ok c ≡ Err faults.TooLong = sym e ∙ refused in
    cc

pub proof-fault-whole : (i : Instance) (text output : List ℕ) → SaysProofFault i (front_to 1073741824 text) output
    → SaysProofFault i text output
proof-fault-whole i text output h =
    record { fault = h.fault; reading = sym (proof-alike i text) ∙ h.reading; line = h.line }

-- the answers to the first bytes of a proof text, up to one above the limit, are answers to the text
pub proof-fronts : (A : CertAnswers) (i : Instance) (text : List ℕ) (s : ℕ) (output : List ℕ)
    → ProofAnswers A i (front_to 1073741824 text) s output → ProofAnswers A i text s output
proof-fronts A i text s output (asked.ProofAnswers.accepted c t x e a) =
    asked.ProofAnswers.accepted c t x (sym (proof-alike i text) ∙ e) a
proof-fronts A i text s output (asked.ProofAnswers.refused x h) =
    asked.ProofAnswers.refused x (proof-fault-whole i text x h)
