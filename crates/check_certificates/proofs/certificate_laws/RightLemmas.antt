-- A yes is sound: what an accepted certificate states is true.
use Rattle.std.proofs.Common.{◌≡◌, ℕ, arith, ◌≤◌, Option, None, Some, IfSome, List, subst}
use Rattle.model_rosters.specs.declared.instance.Instance.{Instance}
use Rattle.model_rosters.specs.declared.instance.Shift.{Shift}
use Rattle.model_rosters.specs.Cuts.{base_cuts}
use Rattle.model_rosters.specs.Duties.{Duty}
use Rattle.model_rosters.specs.Folds.{Each}
use Rattle.model_rosters.specs.Rosters.{Costs}
use Rattle.model_rosters.specs.SoundInstance.{IsSoundInstance}
use Rattle.law_bounds.proofs.RosterCosts.{roster-costs-le}
use Rattle.law_bounds.proofs.RosterTrees.{has-trees, stand-for, not-infeasible}
use Rattle.law_bounds.proofs.SoundReady.{ready}
use Rattle.check_certificates.specs.declared.cert.Cert.{Cert}
use Rattle.check_certificates.specs.Nodes.{Proof, visits}
use Rattle.check_certificates.specs.RosterCauses.{duties}
use Rattle.check_certificates.specs.Sound.{IsSoundVisit, IsSoundCert}
use Rattle.check_certificates.specs.RosterCauses.{stated_prices}
use Rattle.check_certificates.specs.certificate_laws.Accepted.{IsStated, bound_number, IsProved, Accepts}
use Rattle.check_certificates.specs.certificate_laws.Right.{YesIsRight}
use Rattle.check_certificates.proofs.certificate_laws.ShownBound.{shows-le}
use Rattle.check_certificates.proofs.certificate_laws.OneProof.{same-proof}

module _ (i : Instance) (sound : IsSoundInstance i) where
  -- each allowed roster costs at least what the tree proves
  roster-bound : (bound : Option ℕ) (proof : Proof) → Each (IsSoundVisit i) (visits (base_cuts i) proof) → IsProved i bound proof → (ds : List Duty) (amount : ℕ) → Costs i ds amount
      → bound_number i bound ≤ amount
  roster-bound bound proof fit proved ds amount costs =
      let made = has-trees i (ready i sound) ds costs.prices costs.allowed in
      let stand = stand-for i (ready i sound) ds costs.prices made.trees costs.allowed made.each in
      let shown = shows-le i sound made.trees stand.roster (not-infeasible i (ready i sound) ds costs.prices costs.allowed) proof (base_cuts i) proved.shown fit proved.tight stand.meets proved.shows in
      omega (arith, made.cost, costs.total, shown, proved.enough)

  stated : (cost : Option ℕ) (shifts : List Shift) → IfSome cost (IsStated i shifts) → IfSome cost (λ amount. Costs i (duties shifts) amount)
  stated None shifts h = tt
  stated (Some amount) shifts h = record { prices = stated_prices shifts; allowed = h.roster; total = h.total }

  bounded : (bound : Option ℕ) → ((ds : List Duty) (amount : ℕ) → Costs i ds amount → bound_number i bound ≤ amount) → IfSome bound (λ b. (ds : List Duty) (amount : ℕ) → Costs i ds amount → b ≤ amount)
  bounded None f = tt
  bounded (Some b) f = f

  none-allowed : (bound : Option ℕ) → ((ds : List Duty) (amount : ℕ) → Costs i ds amount → bound_number i bound ≤ amount) → bound ≡ None → (ds : List Duty) (amount : ℕ) → Costs i ds amount → ⊥
  none-allowed (Some b) f e ds amount costs = cc
  none-allowed None f e ds amount costs = let a = f ds amount costs in let b = roster-costs-le i sound ds amount costs in absurd (omega arith)

  pub yes-is-sound : (c : Cert) → IsSoundCert i c → Accepts i c → YesIsRight i c
  yes-is-sound c fit good =
      let same = same-proof fit.proof good.proof c.nodes fit.nodes.whole good.nodes in
      let each = subst (λ (p : Proof). Each (IsSoundVisit i) (visits (base_cuts i) p)) same fit.nodes.each in
      let least = roster-bound c.bound good.proof each good.proved in
      record { roster = stated c.cost c.shifts good.roster; bound = bounded c.bound least; none = none-allowed c.bound least }
