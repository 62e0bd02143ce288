-- The certificate with which a search begins that an old text says.
use Rattle.std.specs.Prelude.{ℕ, List, [], ◌∷◌, Some, Result, Ok, Err}
use Rattle.model_rosters.specs.declared.instance.Instance.{Instance}
use Rattle.model_rosters.specs.declared.instance.Shift.{Shift}
use Rattle.check_certificates.specs.declared.cert.Cert.{Cert}
use Rattle.check_certificates.specs.declared.cert.Node.TheVariants.{Bare}
use Rattle.text_proof_pieces.specs.CertOf.{proof_of}
use Rattle.text_proof_pieces.specs.declared.fault.ProofFault.{ProofFault}
use Rattle.text_old_shifts.specs.ShiftsOf.{shifts_of}
use Rattle.text_old_shifts.specs.declared.fault.OldFault.{OldFault}
use Rattle.text_old_shifts.specs.declared.said.SaidShifts.{SaidShifts}

-- a certificate of these shifts, whose tree shows nothing
abbrev pub cert_of_shifts : List Shift → Cert
cert_of_shifts shifts = record { shifts = shifts; cost = Some 0; bound = Some 0; nodes = Bare ∷ [] }

-- the certificate of a text that is a proof text of the day; else one of its shifts; else the fault of a proof text
abbrev pub either_of : Result Cert ProofFault → Result SaidShifts OldFault → Result Cert ProofFault
either_of (Ok c) said = Ok c
either_of (Err e) (Ok s) = Ok (cert_of_shifts s.shifts)
either_of (Err e) (Err f) = Err e

unfoldable pub from_of : Instance → List ℕ → Result Cert ProofFault
from_of i text = either_of (proof_of i text) (shifts_of i text)
