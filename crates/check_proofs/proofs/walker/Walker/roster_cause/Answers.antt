use Rattle.std.proofs.Common.{Option, None, Some, List, ℕ, sym, subst}
use Rattle.std.specs.Prelude.{MatchOption}
use Rattle.model_rosters.specs.declared.instance.Instance.{Instance}
use Rattle.model_rosters.specs.declared.instance.Shift.{Shift}
use Rattle.check_certificates.specs.declared.cert.Cert.{Cert}
use Rattle.check_certificates.specs.declared.why.Why.{Why}
use Rattle.check_certificates.specs.certificate_laws.Causes.{IsFirstCause}
use Rattle.check_parts.specs.roster_part.Faults.{IsRightlyStated, IsRosterCause}
use Rattle.check_proofs.specs.Verdicts.{HasRightRoster, States}
use Rattle.check_proofs.proofs.FirstCauses.{roster-first}
use Rattle.check_proofs.proofs.walker.Walker.roster_cause.Goals as goal

-- what is said of the stated cost, said of the certificate
judged : (i : Instance) (amount : ℕ) (shifts : List Shift) (fault : Option Why) → MatchOption fault (IsRightlyStated i amount shifts) (IsRosterCause i amount shifts)
    → MatchOption fault (HasRightRoster i (Some amount) shifts) (λ why. (c : Cert) → States c (Some amount) shifts → IsFirstCause i c why)
judged i amount shifts None h = h
judged i amount shifts (Some why) h = λ c s. roster-first i c amount shifts why s h

pub returns-in-Some-clause-value : goal.returns-in-Some-clause-value
returns-in-Some-clause-value c =
    let i = c.args.instance.now in
    let shifts = c.args.shifts.now in
    let fault = c.roster_fault.result in
    subst (λ (o : Option ℕ). MatchOption fault (HasRightRoster i o shifts) (λ why. (x : Cert) → States x o shifts → IsFirstCause i x why)) (sym c.in-Some.is)
    (judged i c.in-Some.cost shifts fault c.roster_fault.ensures.value)
