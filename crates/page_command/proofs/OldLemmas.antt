-- The shifts of an old roster, and the line of a fault.
use Rattle.std.proofs.Common.{◌≡◌, ℕ, ◌+◌, ◌≤◌, Bool, true, false, cond, not, List, [], ◌∷◌, ◌++◌, length, length-append, drop, get_or, None, Some, Result, Ok, Err, IfOk, arith, refl, sym, subst}
use Rattle.std.proofs.lemmas.Bool.{eqb-true}
use Rattle.std.proofs.lemmas.List.Elements.{All-from_get_or}
use Rattle.std.proofs.lemmas.List.Sums.{fails_before_first}
use Rattle.std.proofs.lemmas.Option.{none-some}
use Rattle.std.specs.List.{position, position_or_len}
use Rattle.std.specs.Prelude.{codes, nat_eq, nat_lt}
use Rattle.model_rosters.specs.declared.instance.Instance.{Instance}
use Rattle.model_rosters.specs.declared.instance.Shift.{Shift}
use Rattle.model_rosters.specs.Folds.{Each}
use Rattle.model_rosters.proofs.EachLemmas.{all_each}
use Rattle.check_certificates.specs.declared.cert.Cert.{Cert}
use Rattle.text_proof_pieces.specs.CertOf.{proof_of}
use Rattle.text_proof_pieces.specs.FaultLine as proof
use Rattle.text_proof_pieces.specs.declared.fault.ProofFault.{ProofFault}
use Rattle.text_reports.specs.Reports.{HasSoundShifts}
use Rattle.check_values.specs.stated_rosters.FaultLine as roster
use Rattle.check_values.specs.stated_rosters.RosterOf.{roster_of}
use Rattle.check_values.specs.declared.stated_rosters.fault.RosterFault.{RosterFault}
use Rattle.text_lines.proofs.ListLemmas.{at_least}
use Rattle.text_lines.specs.Places.{place_text}
use Rattle.page_views.specs.Draw.{IsOldRoster}
use Rattle.page_command.specs.Old.{Reads, is_wrong, of_proof, of_report, old_line, whole_of}
use Rattle.page_command.specs.declared.old_fault.OldFault.{OldFault}
use Rattle.page_command.specs.declared.old_fault.OldFault.TheVariants.{WrongLength}

if_not : (b : Bool) → not b ≡ false → b ≡ true
if_not true e = refl
if_not false e = absurd cc

fits : (n : ℕ) (s : Shift) → is_wrong n s ≡ false → length s.word ≡ n
fits n s e = eqb-true (length s.word) n (if_not (nat_eq (length s.word) n) e)

if_none : (b : Bool) (k : ℕ) → cond b (Some k) None ≡ None → b ≡ false
if_none true k e = absurd (none-some k (sym e))
if_none false k e = refl

abbrev nobody : Shift
nobody = record { group = 0; word = []; price = 0 }

-- where no word has another length, each has this one
pub all-fit : (n : ℕ) (ss : List Shift) → position (is_wrong n) ss ≡ None → Each (λ (s : Shift). length s.word ≡ n) ss
all-fit n ss e =
    let k = position_or_len (is_wrong n) ss in
    let past : length ss ≤ k = at_least k (length ss) (if_none (nat_lt k (length ss)) k e) in
    all_each (λ (s : Shift). length s.word ≡ n) ss
    (All-from_get_or (λ (s : Shift). length s.word ≡ n) ss nobody
    (λ j lt. fits n (get_or ss j nobody) (fails_before_first (is_wrong n) ss j nobody (omega (arith, lt, past)))))

-- what is read of shifts by the first place that does not fit
pub whole-none : (i : Instance) (ss : List Shift) → position (is_wrong i.grammar.periods) ss ≡ None → Ok ss ≡ whole_of i ss
whole-none i ss e = rw e refl

pub whole-some : (i : Instance) (ss : List Shift) (k : ℕ) → position (is_wrong i.grammar.periods) ss ≡ Some k → Err (WrongLength (k + 1)) ≡ whole_of i ss
whole-some i ss k e = rw e refl

reads_same : (r said : Result (List Shift) OldFault) → r ≡ said → Reads r said
reads_same (Ok ss) said e = sym e
reads_same (Err fault) said e = λ no. sym e

pub proof-told : (i : Instance) (text : List ℕ) (c : Cert) (r : Result (List Shift) OldFault) → proof_of i text ≡ Ok c → r ≡ whole_of i c.shifts → Reads r (of_proof i (proof_of i text))
proof-told i text c r reading e = rw reading (reads_same r (whole_of i c.shifts) e)

pub report-told : (i : Instance) (text : List ℕ) (shifts : List Shift) (r : Result (List Shift) OldFault) → roster_of i text ≡ Ok shifts → r ≡ whole_of i shifts
    → Reads r (of_report i (roster_of i text))
report-told i text shifts r reading e = rw reading (reads_same r (whole_of i shifts) e)

pub old-sound : (i : Instance) (shifts : List Shift) (r : Result (List Shift) OldFault) → HasSoundShifts i shifts → IfOk r (λ ss. ss ≡ shifts)
    → IfOk r (Each (λ (s : Shift). length s.word ≡ i.grammar.periods)) → IfOk r (IsOldRoster i)
old-sound i shifts (Err fault) sound same whole = tt
old-sound i shifts (Ok ss) sound same whole = record { shifts = subst (λ (xs : List Shift). HasSoundShifts i xs) (sym same) sound; whole = whole }

-- a line behind another first word
pub proof-renamed : (e : ProofFault) → codes "old: " ++ drop (length (codes "proof: ")) (proof.fault_line e) ≡ old_line (proof.line_of e) (proof.fault_text e)
proof-renamed e = refl

pub report-renamed : (e : RosterFault) → codes "old: " ++ drop (length (codes "roster: ")) (roster.fault_line e) ≡ old_line (roster.line_of e) (roster.fault_text e)
report-renamed e = refl

pub proof-long : (e : ProofFault) → length (codes "proof: ") ≤ length (proof.fault_line e)
proof-long e = omega (arith, length-append (codes "proof: ") (place_text (proof.line_of e) ++ proof.fault_text e ++ 10 ∷ []))

pub report-long : (e : RosterFault) → length (codes "roster: ") ≤ length (roster.fault_line e)
report-long e = omega (arith, length-append (codes "roster: ") (place_text (roster.line_of e) ++ roster.fault_text e ++ 10 ∷ []))
