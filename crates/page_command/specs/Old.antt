-- The shifts of an old roster, or why its text is refused.
use Rattle.std.specs.Prelude.{ℕ, ◌≡◌, ◌+◌, Bool, not, nat_eq, length, position, Option, None, Some, List, [], ◌∷◌, ◌++◌, codes, if◌then◌else◌, Result, Ok, Err}
use Rattle.std.specs.Fmt.{decimal}
use Rattle.model_rosters.specs.declared.instance.Instance.{Instance}
use Rattle.model_rosters.specs.declared.instance.Shift.{Shift}
use Rattle.check_certificates.specs.declared.cert.Cert.{Cert}
use Rattle.text_proof_pieces.specs.CertOf.{proof_of}
use Rattle.text_proof_pieces.specs.FaultLine as proof
use Rattle.text_proof_pieces.specs.declared.fault.ProofFault.{ProofFault}
use Rattle.check_values.specs.stated_rosters.FaultLine as roster
use Rattle.check_values.specs.stated_rosters.RosterOf.{roster_of}
use Rattle.check_values.specs.declared.stated_rosters.fault.RosterFault.{RosterFault}
use Rattle.text_lines.specs.Places.{place_text}
use Rattle.text_lines.specs.Steps as steps
use Rattle.text_lines.specs.Written.{tail}
use Rattle.page_command.specs.Report.{LineAnswers, is_report}
use Rattle.page_command.specs.declared.old_fault.OldFault.{OldFault}
use Rattle.page_command.specs.declared.old_fault.OldFault.TheVariants.{Proof, Report, WrongLength, Memory}

-- the word has another length than the day
abbrev pub is_wrong : ℕ → Shift → Bool
is_wrong periods s = not (nat_eq (length s.word) periods)

abbrev pub whole_at : Option ℕ → List Shift → Result (List Shift) OldFault
whole_at None shifts = Ok shifts
whole_at (Some place) shifts = Err (WrongLength (place + 1))

-- the shifts, or the number of the first whose word has another length than the day
abbrev pub whole_of : Instance → List Shift → Result (List Shift) OldFault
whole_of i shifts = whole_at (position (is_wrong i.grammar.periods) shifts) shifts

-- the shifts of a certificate, which is not judged
abbrev pub of_proof : Instance → Result Cert ProofFault → Result (List Shift) OldFault
of_proof i (Ok c) = whole_of i c.shifts
of_proof i (Err e) = Err (Proof e)

-- the shifts of a report
abbrev pub of_report : Instance → Result (List Shift) RosterFault → Result (List Shift) OldFault
of_report i (Ok shifts) = whole_of i shifts
of_report i (Err e) = Err (Report e)

-- the shifts that an old text says for an instance, or its first fault
unfoldable pub old_of : Instance → List ℕ → Result (List Shift) OldFault
old_of i text = if is_report text then of_report i (roster_of i text) else of_proof i (proof_of i text)

-- what a call gave is what the text says, unless memory ran out
abbrev pub Reads : Result (List Shift) OldFault → Result (List Shift) OldFault → Type 0
Reads result said = steps.Reads Memory (λ shifts. shifts) result said

-- a fault behind a word of its own, and the line that it carries in its text
abbrev pub old_line : Option ℕ → List ℕ → List ℕ
old_line line text = codes "old: " ++ place_text line ++ text ++ 10 ∷ []

-- the line that tells a fault
abbrev pub fault_line : OldFault → List ℕ
fault_line (Proof e) = old_line (proof.line_of e) (proof.fault_text e)
fault_line (Report e) = old_line (roster.line_of e) (roster.fault_text e)
fault_line (WrongLength k) = codes "old: shift" ++ tail (decimal k ∷ []) ++ codes ": wrong length\n"
fault_line Memory = codes "old: out of memory\n"

-- status 5: the old text is refused
pub record SaysOldFault (i : Instance) (text output : List ℕ) : Type 0 where
  pub fault : OldFault
  pub reading : old_of i text ≡ Err fault
  pub line : output ≡ fault_line fault

-- the answers to a proof text or a report where the old text is refused
pub record RefusedOld (old : List ℕ) (i : Instance) (text : List ℕ) (status : ℕ) (output : List ℕ)
    : Type 0 where
  pub line : List ℕ
  pub fault : SaysOldFault i old line
  pub answers : LineAnswers i text line status output
