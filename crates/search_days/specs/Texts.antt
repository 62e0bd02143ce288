-- The text of a certificate, written and read again.
use Rattle.std.specs.Prelude.{ℕ, ◌≡◌, ◌≤◌, Ok, List}
use Rattle.model_rosters.specs.declared.instance.Instance.{Instance}
use Rattle.model_rosters.specs.Folds.{sum_n}
use Rattle.check_certificates.specs.declared.cert.Cert.{Cert}
use Rattle.text_proof_pieces.specs.CertOf.{proof_of}
use Rattle.text_certificates.specs.Written.{cert_text, node_values}

-- as few prices and multipliers as 10,000 nodes of at most 1,498 list
abbrev pub HasFewValues : Cert → Type 0
HasFewValues c = sum_n node_values c.nodes ≤ 14980000

-- the text of the certificate, which is read as that certificate
pub record IsTextOf (i : Instance) (c : Cert) (text : List ℕ) : Type 0 where
  pub written : text ≡ cert_text i c
  pub denotes : proof_of i text ≡ Ok c
