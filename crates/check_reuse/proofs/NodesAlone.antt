-- What a verdict on nodes alone, with the bound none, says of them.
use Rattle.std.proofs.Common.{◌≡◌, ℕ, arith, ◌<◌, ◌≤◌, ◌+◌, cond, nat_lt, nat_eq, Option, None, Some, List, sym, subst, ◌∙◌}
use Rattle.model_rosters.specs.declared.instance.Instance.{Instance}
use Rattle.model_rosters.specs.Cuts.{base_cuts}
use Rattle.model_rosters.specs.Duties.{Duty}
use Rattle.model_rosters.specs.Folds.{Each}
use Rattle.model_rosters.specs.GreatestCost.{greatest_cost}
use Rattle.model_rosters.specs.Rosters.{Costs}
use Rattle.model_rosters.specs.SoundInstance.{IsSoundInstance}
use Rattle.law_bounds.proofs.RosterTrees.{has-trees, stand-for, not-infeasible}
use Rattle.law_bounds.proofs.SoundReady.{ready}
use Rattle.check_certificates.specs.declared.cert.Cert.{Cert}
use Rattle.check_certificates.specs.declared.verdict.Verdict.{Verdict}
use Rattle.check_certificates.specs.declared.verdict.Verdict.TheVariants.{Yes, No}
use Rattle.check_certificates.specs.declared.why.Why.{Why}
use Rattle.check_certificates.specs.declared.why.Why.TheVariants.{NotAShift, ShiftCost, WrongHeads, WrongCost, NotAnArc, EmptyHalf, NotPinned, BoundTooHigh, Outside}
use Rattle.check_certificates.specs.Nodes.{Proof, preorder, visits}
use Rattle.check_certificates.specs.Sound.{IsSoundVisit, IsSoundCert}
use Rattle.check_certificates.specs.certificate_laws.Causes.{Cause, cause_number, IsFirstCause}
use Rattle.check_certificates.specs.certificate_laws.Accepted.{Accepts}
use Rattle.check_certificates.specs.certificate_laws.Shown.{Shows}
use Rattle.check_certificates.specs.certificate_laws.Right.{YesIsRight}
use Rattle.check_certificates.proofs.certificate_laws.NoCause.{refused}
use Rattle.check_certificates.proofs.certificate_laws.ShownBound.{shows-le}
use Rattle.check_certificates.proofs.certificate_laws.OneProof.{same-proof}
use Rattle.check_proofs.specs.Verdicts.{IsVerdict}
use Rattle.check_reuse.specs.Reuse.{nodes_only, IsOnNodes, IsFirstNodeCause, IsLowerBound, IsShownBound, IsReuse, reuse_of}
use Rattle.check_reuse.proofs.TightLeaves.{all-tight}

small : (u v : ℕ) → v < u + 1 → cond (nat_lt u v) None (Some v) ≡ Some v
small u v less = grind (arith, less)

stated : (u v : ℕ) → v < u + 1 → cond (nat_eq v (u + 1)) None (Some v) ≡ Some v
stated u v less = grind (arith, less)

great : (u v : ℕ) → u + 1 ≤ v → cond (nat_lt u v) None (Some v) ≡ None
great u v more = grind (arith, more)

module _ (i : Instance) (c : Cert) where
  -- causes on the tree of nodes are those of the nodes alone
  pub alone : (why : Why) → IsOnNodes why → Cause i c why → Cause i (nodes_only c) why
  alone (NotAnArc n) on h = h
  alone (EmptyHalf n) on h = h
  alone (NotPinned n a) on h = h
  alone (NotAShift k) on h = absurd on
  alone (ShiftCost k said least) on h = absurd on
  alone (WrongHeads g n) on h = absurd on
  alone (WrongCost said found) on h = absurd on
  alone (BoundTooHigh said shown) on h = absurd on
  alone (Outside byte period n) on h = absurd on

  pub not-alone : (why : Why) → IsOnNodes why → Cause i (nodes_only c) why → Cause i c why
  not-alone (NotAnArc n) on h = h
  not-alone (EmptyHalf n) on h = h
  not-alone (NotPinned n a) on h = h
  not-alone (NotAShift k) on h = absurd on
  not-alone (ShiftCost k said least) on h = absurd on
  not-alone (WrongHeads g n) on h = absurd on
  not-alone (WrongCost said found) on h = absurd on
  not-alone (BoundTooHigh said shown) on h = absurd on
  not-alone (Outside byte period n) on h = absurd on

  -- they come before the cause on the bound
  pub on-few : (why : Why) → IsOnNodes why → cause_number why ≤ 7
  on-few (NotAnArc n) on = omega arith
  on-few (EmptyHalf n) on = omega arith
  on-few (NotPinned n a) on = omega arith
  on-few (NotAShift k) on = absurd on
  on-few (ShiftCost k said least) on = absurd on
  on-few (WrongHeads g n) on = absurd on
  on-few (WrongCost said found) on = absurd on
  on-few (BoundTooHigh said shown) on = absurd on
  on-few (Outside byte period n) on = absurd on

  first-on : (why : Why) → IsOnNodes why → IsFirstCause i (nodes_only c) why → IsFirstNodeCause i c why
  first-on why on h = record { on_nodes = on; holds = not-alone why on h.holds; least = λ other o k. h.least other (alone other o k) }

  module _ (sound : IsSoundInstance i) (fit : IsSoundCert i c) where
    -- where nothing is wrong with the nodes, no allowed roster costs less than they show
    shown-least : (proof : Proof) (v : ℕ) → preorder proof ≡ c.nodes → ((why : Why) → IsOnNodes why → Cause i c why → ⊥) → Shows i (base_cuts i) proof v
        → (ds : List Duty) (amount : ℕ) → Costs i ds amount → v ≤ amount
    shown-least proof v nodes right shows ds amount costs =
        let same = same-proof fit.proof proof c.nodes fit.nodes.whole nodes in
        let each = subst (λ (p : Proof). Each (IsSoundVisit i) (visits (base_cuts i) p)) same fit.nodes.each in
        let tight = all-tight i sound.grammar (visits (base_cuts i) proof) (λ n a f. right (NotPinned n a) tt (proof, nodes, f)) in
        let made = has-trees i (ready i sound) ds costs.prices costs.allowed in
        let stand = stand-for i (ready i sound) ds costs.prices made.trees costs.allowed made.each in
        let le = shows-le i sound made.trees stand.roster (not-infeasible i (ready i sound) ds costs.prices costs.allowed) proof (base_cuts i) v each tight stand.meets shows in
        omega (arith, made.cost, costs.total, le)

    some-lower : (v : ℕ) → ((ds : List Duty) (amount : ℕ) → Costs i ds amount → v ≤ amount) → IsLowerBound i (Some v)
    some-lower v least = record { some = least; none = λ e. cc }

    shown-bound : (said shown : Option ℕ) → IsFirstCause i (nodes_only c) (BoundTooHigh said shown) → IsShownBound i c shown
    shown-bound said shown h =
        let a = h.holds.1 in
        let right : (why : Why) → IsOnNodes why → Cause i c why → ⊥ =
        λ why on k. let early = on-few why on in let late = h.least why (alone why on k) in omega (arith, early, late) in
        let same : shown ≡ Some a.value = sym a.stated ∙ stated (greatest_cost i) a.value a.less in
        record {
          right = right;
          proof = a.proof;
          nodes = a.nodes;
          value = a.value;
          shows = a.shows;
          stated = small (greatest_cost i) a.value a.less ∙ sym same;
          lower = subst (λ (o : Option ℕ). IsLowerBound i o) (sym same) (some-lower a.value (shown-least a.proof a.value a.nodes right a.shows));
        }

    none-bound : Accepts i (nodes_only c) → YesIsRight i (nodes_only c) → IsShownBound i c None
    none-bound good is = record {
      right = λ why on k. refused i (nodes_only c) good why (alone why on k);
      proof = good.proof;
      nodes = good.nodes;
      value = good.proved.shown;
      shows = good.proved.shows;
      stated = great (greatest_cost i) good.proved.shown good.proved.enough;
      lower = record { some = tt; none = is.none };
    }

    -- no other cause holds of nodes alone
    pub told-is : (v : Verdict) → IsVerdict i (nodes_only c) v → IsReuse i c (reuse_of v)
    told-is (Yes cost bound) h = none-bound h.0 h.3
    told-is (No (BoundTooHigh said shown)) h = shown-bound said shown h
    told-is (No (NotAnArc n)) h = first-on (NotAnArc n) tt h
    told-is (No (EmptyHalf n)) h = first-on (EmptyHalf n) tt h
    told-is (No (NotPinned n a)) h = first-on (NotPinned n a) tt h
    told-is (No (NotAShift k)) h = let e = h.holds.0 in cc
    told-is (No (ShiftCost k said least)) h = let e = h.holds.0 in cc
    told-is (No (WrongHeads g n)) h = let e = h.holds.0 in cc
    told-is (No (WrongCost said found)) h = let e = h.holds.0 in cc
    told-is (No (Outside byte period n)) h = let e = h.holds.0 in cc
