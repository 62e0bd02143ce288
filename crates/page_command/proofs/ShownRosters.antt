-- What is accepted or allowed can be shown.
use Rattle.std.proofs.Common.{◌≡◌, ℕ, List, Option, None, Result, Ok, Err, IfOk, arith, sym, subst}
use Rattle.std.proofs.lemmas.Option.{none-some}
use Rattle.std.specs.Prelude.{IfSome}
use Rattle.model_rosters.specs.declared.instance.Instance.{Instance}
use Rattle.model_rosters.specs.declared.instance.Shift.{Shift}
use Rattle.model_rosters.specs.declared.memory.Memory.{Memory}
use Rattle.model_rosters.specs.Duties.{Duty}
use Rattle.model_rosters.specs.Rosters.{IsRoster, roster_cost}
use Rattle.check_certificates.specs.certificate_laws.Accepted.{IsStated}
use Rattle.check_certificates.specs.RosterCauses.{duties, stated_prices}
use Rattle.check_certificates.specs.Sound.{IsSoundCert}
use Rattle.check_certificates.specs.declared.cert.Cert.{Cert}
use Rattle.text_proof_pieces.specs.CertOf.{proof_of}
use Rattle.check_values.specs.Values.{IsValued}
use Rattle.check_values.specs.declared.valued.Valued.{Valued}
use Rattle.command_answers.specs.declared.answer.Answer.{Answer}
use Rattle.command_answers.proofs.OneReading.{same_ok}
use Rattle.page_labels.specs.declared.labels.Labels.{Labels}
use Rattle.page_views.specs.Draw.{IsSoundShown}
use Rattle.page_views.specs.Shown.{IsShown, Showing, certified, line_instead, stated}
use Rattle.page_views.specs.Shown as showing
use Rattle.page_views.specs.declared.kind.Kind.{Kind}
use Rattle.page_views.specs.declared.roster.ShownRoster.{ShownRoster}

-- the roster of a sound certificate that is as it states
pub sound-certified : (i : Instance) (c : Cert) → IsSoundCert i c → IfSome c.cost (IsStated i c.shifts) → IsSoundShown i (certified c)
sound-certified i c cert is = record { shifts = record { few = cert.few; each = cert.shifts }; none = cert.none; stated = is }

-- an allowed roster at its prices
pub sound-stated : (i : Instance) (shifts : List Shift) (v : Valued) → IsValued i shifts v → IsSoundShown i (stated v)
sound-stated i shifts v h =
    let back : duties shifts ≡ duties v.shifts = sym h.same in
    let total : roster_cost i (duties shifts) (stated_prices v.shifts) ≡ v.cost = omega (arith, h.paid, h.penalty, h.cost) in
    record {
      shifts = h.sound;
      none = λ e. absurd (none-some v.cost (sym e));
      stated = record {
        roster = subst (λ (ds : List Duty). IsRoster i ds (stated_prices v.shifts)) back h.allowed;
        total = subst (λ (ds : List Duty). roster_cost i ds (stated_prices v.shifts) ≡ v.cost) back total;
      };
    }

-- what shows the roster of a certificate shows that of the text's certificate, which is one
pub accepted-shown : (k : Kind) (d : Labels) (old : Option (List Shift)) (i : Instance) (text : List ℕ) (cert : Cert) (r : Result Answer Memory) → proof_of i text ≡ Ok cert
    → IfOk r (λ a. Showing k d i (certified cert) old a.status a.output)
    → IfOk r (λ a. (c : Cert) → proof_of i text ≡ Ok c → Showing k d i (certified c) old a.status a.output)
accepted-shown k d old i text cert (Err e) reading h = tt
accepted-shown k d old i text cert (Ok a) reading h =
    λ c e. subst (λ (x : Cert). Showing k d i (certified x) old a.status a.output) (same_ok (proof_of i text) cert c reading e) h

-- a roster is shown, or a line is said in its place
pub roster-shown : (k : Kind) (d : Labels) (i : Instance) (r : ShownRoster) (old : Option (List Shift)) (x : Result Answer Memory) → line_instead k d r ≡ None
    → IfOk x (λ a. (a.status ≡ 0) × IsShown k d i r old a.output) → IfOk x (λ a. Showing k d i r old a.status a.output)
roster-shown k d i r old (Err e) none h = tt
roster-shown k d i r old (Ok a) none h = rw h.0 (showing.Showing.shown a.output none h.1)
