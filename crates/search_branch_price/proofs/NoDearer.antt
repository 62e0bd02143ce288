-- What is found costs no more than an old roster that is allowed on the day.
use Rattle.std.proofs.Common.{◌≡◌, ℕ, arith, ◌≤◌, Bool, true, Option, None, Some, IfSome, List, refl, subst, ap, ◌⊎◌, inl, inr}
use Rattle.std.specs.Prelude.{IsSome}
use Rattle.model_rosters.specs.declared.instance.Done.{Done}
use Rattle.model_rosters.specs.declared.instance.Done.TheVariants.{Equal, NoRoster, TurnsOut}
use Rattle.model_rosters.specs.declared.instance.Instance.{Instance}
use Rattle.model_rosters.specs.declared.instance.Shift.{Shift}
use Rattle.model_rosters.specs.Duties.{Duty}
use Rattle.model_rosters.specs.Rosters.{Costs}
use Rattle.model_rosters.specs.SoundInstance.{IsSoundInstance}
use Rattle.law_bounds.proofs.RosterCosts.{roster-costs-le}
use Rattle.check_certificates.specs.declared.cert.Cert.{Cert}
use Rattle.check_certificates.specs.RosterCauses.{duties}
use Rattle.check_certificates.specs.certificate_laws.Right.{YesIsRight}
use Rattle.check_certificates.proofs.certificate_laws.RightLemmas.{yes-is-sound}
use Rattle.search_candidates.specs.declared.roster.Roster.{Roster}
use Rattle.search_candidates.specs.Offers.{cost_of}
use Rattle.search_primal.specs.OldRosters.{IsNoDearerThan, ReachesOld}
use Rattle.search_branch_price.specs.declared.found.Found.{Found}
use Rattle.search_branch_price.specs.Ends.{IsStatedBy}
use Rattle.search_branch_price.specs.Found.{IsDone, IsWhole, IsStoppedRoot, IsFound}

-- what is stated of the best roster is its cost
pub stated-cost : (best : Option Roster) (said : List Shift × Option ℕ) → IsStatedBy best said → said.1 ≡ cost_of best
stated-cost None said h = ap (λ (s : List Shift × Option ℕ). s.1) h
stated-cost (Some r) said h = ap (λ (s : List Shift × Option ℕ). s.1) h

-- the best roster is there where the old one is allowed, since no roster costs more than the greatest cost
pub no-dearer : (i : Instance) → IsSoundInstance i → (shifts : List Shift) (best : Option Roster) → ReachesOld i shifts best → (cost : Option ℕ) → cost ≡ cost_of best
    → IsNoDearerThan i shifts cost
no-dearer i sound shifts None reaches cost e = λ x costs.
    let r = reaches x costs in
    let most = roster-costs-le i sound (duties shifts) x costs in
    absurd (omega (arith, r, most))
no-dearer i sound shifts (Some r) reaches cost e = λ x costs. (r.cost, e, reaches x costs)

least_cost : (i : Instance) (cost bound : Option ℕ) → IsSome cost → bound ≡ cost → IfSome bound (λ b. (ds : List Duty) (amount : ℕ) → Costs i ds amount → b ≤ amount)
    → (shifts : List Shift) → IsNoDearerThan i shifts cost
least_cost i None bound some e least shifts = absurd (cc)
least_cost i (Some n) bound some e least shifts = λ x costs.
    let all = subst (λ (b : Option ℕ). IfSome b (λ n. (ds : List Duty) (amount : ℕ) → Costs i ds amount → n ≤ amount)) e least in
    (n, refl, all (duties shifts) x costs)

-- where the bound is the cost, or no roster is allowed, no roster costs less
closed_no_dearer : (i : Instance) (c : Cert) → YesIsRight i c → (d : Done) → IsDone c d → (d ≡ TurnsOut → ⊥) → (shifts : List Shift) → IsNoDearerThan i shifts c.cost
closed_no_dearer i c right Equal is left shifts = least_cost i c.cost c.bound is.0 is.1 right.bound shifts
closed_no_dearer i c right NoRoster is left shifts = λ x costs. absurd (right.none is.1 (duties shifts) x costs)
closed_no_dearer i c right TurnsOut is left shifts = absurd (left refl)

-- what is found in a turn or more, and where all turns were used
used-up : (i : Instance) (strict : Bool) (turns : ℕ) (f : Found) → 1 ≤ turns → IsFound i strict turns f → f.done ≡ TurnsOut → f.processed ≡ turns
used-up i strict turns f some is left = by is.whole
  where
    by : IsWhole i strict turns f is.proof ⊎ IsStoppedRoot turns f → f.processed ≡ turns
    by (inl whole) = (whole.ran_out left).all
    by (inr root) = let none = root.none in absurd (omega (arith, some, none))

-- what is found in whatever number of turns is closed
pub found-no-dearer : (i : Instance) → IsSoundInstance i → (f : Found) → ((strict : Bool) (turns : ℕ) → 1 ≤ turns → IsFound i strict turns f) → (shifts : List Shift)
    → IsNoDearerThan i shifts f.cert.cost
found-no-dearer i sound f found shifts =
    let one = found true 1 (omega arith) in
    let two = found true 2 (omega arith) in
    closed_no_dearer i f.cert (yes-is-sound i sound f.cert one.sound one.accepted) f.done one.done
    (λ left. let a = used-up i true 1 f (omega arith) one left in let b = used-up i true 2 f (omega arith) two left in omega (arith, a, b)) shifts
