-- The verdict on a certificate whose roster is stated rightly, once all its nodes were seen.
use Rattle.std.proofs.Common.{◌≡◌, ℕ, ◌≤◌, ◌<◌, Option, None, Some, IfSome, List, sym, ap, subst, ◌∙◌}
use Rattle.std.specs.Prelude.{IsSome, unwrap_or}
use Rattle.model_rosters.specs.declared.instance.Instance.{Instance}
use Rattle.model_rosters.specs.declared.instance.Shift.{Shift}
use Rattle.model_rosters.specs.Cuts.{base_cuts}
use Rattle.model_rosters.specs.SoundInstance.{IsSoundInstance}
use Rattle.check_certificates.specs.declared.cert.Cert.{Cert}
use Rattle.check_certificates.specs.declared.why.Why.{Why}
use Rattle.check_certificates.specs.declared.why.Why.TheVariants.{NotAShift, ShiftCost, WrongHeads, WrongCost, NotAnArc, EmptyHalf, NotPinned, BoundTooHigh, Outside}
use Rattle.check_certificates.specs.Nodes.{visits}
use Rattle.check_certificates.specs.RosterCauses.{IsFirstOutside}
use Rattle.check_certificates.specs.Sound.{IsSoundCert}
use Rattle.check_certificates.specs.certificate_laws.Accepted.{bound_number, Accepts}
use Rattle.check_certificates.specs.certificate_laws.Causes.{stated_bound, IsFirstCause}
use Rattle.check_certificates.specs.certificate_laws.Shown.{Shows}
use Rattle.check_certificates.specs.certificate_laws.Right.{YesIsRight}
use Rattle.check_certificates.proofs.certificate_laws.RightLemmas.{yes-is-sound}
use Rattle.check_parts.specs.roster_part.Faults.{IsCoverageCause}
use Rattle.check_proofs.specs.declared.walk.Walk.{Walk}
use Rattle.check_proofs.specs.Verdicts.{HasRightRoster, IsCoverageRight, States, IsWalked}
use Rattle.check_proofs.specs.Walked.{IsVisitsCause}
use Rattle.check_proofs.proofs.FirstCauses.{node-first, bound-first, outside-first, accepted}

module _ (i : Instance) (c : Cert) (cost bound : Option ℕ) (shifts : List Shift) (walk : Walk) (s : States c cost shifts) (e : c.bound ≡ bound) (r : HasRightRoster i cost shifts)
    (w : IsWalked i c.nodes walk) where
  right : HasRightRoster i c.cost c.shifts
  right = subst (λ (o : Option ℕ). HasRightRoster i o c.shifts) (sym s.same_cost) (subst (λ (xs : List Shift). HasRightRoster i cost xs) (sym s.same_shifts) r)

  pub node-decides : (why : Why) → walk.why ≡ Some why → IsFirstCause i c why
  node-decides why h = node-first i c w.proof w.whole why right (subst (λ (o : Option Why). IsVisitsCause i (visits (base_cuts i) w.proof) o) h w.why)

  module _ (none : walk.why ≡ None) (shown : ℕ) (u : shown ≡ unwrap_or walk.shown 0) where
    clean : IsVisitsCause i (visits (base_cuts i) w.proof) None
    clean = subst (λ (o : Option Why). IsVisitsCause i (visits (base_cuts i) w.proof) o) none w.why

    seen : Shows i (base_cuts i) w.proof shown
    seen =
        let v = w.shown none in
        let same : shown ≡ v.0 = u ∙ ap (λ (o : Option ℕ). unwrap_or o 0) v.1 in
        subst (λ (n : ℕ). Shows i (base_cuts i) w.proof n) (sym same) v.2

    pub bound-decides : (why : Why) → shown < bound_number i bound → why ≡ BoundTooHigh bound (stated_bound i shown) → IsFirstCause i c why
    bound-decides why less h =
        let first = bound-first i c w.proof w.whole right clean shown seen (subst (λ (o : Option ℕ). shown < bound_number i o) (sym e) less) in
        subst (λ (x : Why). IsFirstCause i c x) (sym h) (subst (λ (o : Option ℕ). IsFirstCause i c (BoundTooHigh o (stated_bound i shown))) e first)

    module _ (few : bound_number i bound ≤ shown) where
      enough : bound_number i c.bound ≤ shown
      enough = subst (λ (o : Option ℕ). bound_number i o ≤ shown) (sym e) few

      pub coverage-decides : (why : Why) → IsSome cost → IsCoverageCause i shifts why → IsFirstCause i c why
      coverage-decides (Outside byte period n) some h =
          outside-first i c w.proof w.whole right clean shown seen byte period n enough (subst (λ (o : Option ℕ). IsSome o) (sym s.same_cost) some)
          (subst (λ (xs : List Shift). IsFirstOutside i xs byte period n) (sym s.same_shifts) h)
      coverage-decides (NotAShift k) some h = absurd h
      coverage-decides (ShiftCost k said least) some h = absurd h
      coverage-decides (WrongHeads g n) some h = absurd h
      coverage-decides (WrongCost said found) some h = absurd h
      coverage-decides (NotAnArc n) some h = absurd h
      coverage-decides (EmptyHalf n) some h = absurd h
      coverage-decides (NotPinned n a) some h = absurd h
      coverage-decides (BoundTooHigh said found) some h = absurd h

      pub yes-decides : IfSome cost (λ (n : ℕ). IsCoverageRight i shifts) → IsSoundInstance i → IsSoundCert i c → Accepts i c × (cost ≡ c.cost) × (bound ≡ c.bound) × YesIsRight i c
      yes-decides coverage sound fit =
          let covered = subst (λ (o : Option ℕ). IfSome o (λ (n : ℕ). IsCoverageRight i c.shifts)) (sym s.same_cost)
          (subst (λ (xs : List Shift). IfSome cost (λ (n : ℕ). IsCoverageRight i xs)) (sym s.same_shifts) coverage) in
          let accepts = accepted i c w.proof w.whole right clean shown seen enough covered in
          (accepts, sym s.same_cost, sym e, yes-is-sound i sound c fit accepts)
