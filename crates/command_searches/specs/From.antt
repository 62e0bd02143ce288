-- What an old text under a name says, with which a search begins, or why it is refused.
use Rattle.std.specs.Prelude.{ℕ, ◌≡◌, List, Option, Ok, Err}
use Rattle.model_rosters.specs.declared.instance.Instance.{Instance}
use Rattle.check_certificates.specs.declared.cert.Cert.{Cert}
use Rattle.text_proof_pieces.specs.declared.fault.ProofFault.{ProofFault}
use Rattle.text_proof_pieces.specs.FaultLine as proof
use Rattle.text_old_shifts.specs.FromOf.{from_of}
use Rattle.command_shelf.specs.Shelf.{Texts}
use Rattle.command_answers.specs.Reader.{Holds}

-- status 5: the old text is refused, with the line of a proof text's fault
pub record SaysFromFault (i : Instance) (text output : List ℕ) : Type 0 where
  pub fault : ProofFault
  pub reading : from_of i text ≡ Err fault
  pub line : output ≡ proof.fault_line fault

-- the old text under a name says this certificate
pub record SaysFrom (held : Option Texts) (i : Instance) (name : List ℕ) (c : Cert) : Type 0 where
  pub text : List ℕ
  pub holds : Holds held name text
  pub says : from_of i text ≡ Ok c

-- the same, where it is refused
pub record RefusesFrom (held : Option Texts) (i : Instance) (name output : List ℕ) : Type 0 where
  pub text : List ℕ
  pub holds : Holds held name text
  pub fault : SaysFromFault i text output
