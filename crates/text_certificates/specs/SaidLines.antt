-- The texts that say a certificate, by their lines.
use Rattle.std.specs.Prelude.{ℕ, ◌≡◌, ◌≤◌, length, List, [], ◌∷◌, Ok, Err}
use Rattle.model_rosters.specs.declared.instance.Instance.{Instance}
use Rattle.check_certificates.specs.declared.cert.Cert.{Cert}
use Rattle.check_certificates.specs.Sound.{IsSoundCert}
use Rattle.text_lines.specs.Lines.{text_items}
use Rattle.text_proof_pieces.specs.Items.{Items}
use Rattle.text_certificates.specs.Written.{cert_lines}

-- the lines that have words have these, one after another, and no line has a bad byte
abbrev pub HaveWords : Items → List (List (List ℕ)) → Type 0
HaveWords [] [] = Unit {0}
HaveWords [] (ws ∷ wss) = ⊥
HaveWords (Err b ∷ items) wss = ⊥
HaveWords (Ok line ∷ items) [] = ⊥
HaveWords (Ok line ∷ items) (ws ∷ wss) = (line.words ≡ ws) × HaveWords items wss

-- The text is no longer than a text may be, the certificate is sound, and the text's lines of words
-- are those of the certificate.
pub record Says (i : Instance) (text : List ℕ) (c : Cert) : Type 0 where
  pub short : length text ≤ 1073741824
  pub sound : IsSoundCert i c
  pub lines : HaveWords (text_items text) (cert_lines i c)
