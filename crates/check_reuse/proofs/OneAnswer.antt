-- An old certificate has one answer on a day.
use Rattle.std.proofs.Common.{◌≡◌, ℕ, arith, Option, sym, ap, subst, ◌∙◌, ◌≤◌}
use Rattle.model_rosters.specs.declared.instance.Instance.{Instance}
use Rattle.model_rosters.specs.Cuts.{base_cuts}
use Rattle.check_certificates.specs.declared.cert.Cert.{Cert}
use Rattle.check_certificates.specs.declared.why.Why.{Why}
use Rattle.check_certificates.specs.declared.why.Why.TheVariants.{NotAShift, ShiftCost, WrongHeads, WrongCost, NotAnArc, EmptyHalf, NotPinned, BoundTooHigh, Outside}
use Rattle.check_certificates.specs.Nodes.{Proof}
use Rattle.check_certificates.specs.certificate_laws.Causes.{Cause, cause_number, IsFirstCause}
use Rattle.check_certificates.specs.certificate_laws.Shown.{Shows}
use Rattle.check_certificates.proofs.certificate_laws.OneCause.{one-first}
use Rattle.check_certificates.proofs.certificate_laws.OneProof.{same-proof, one-shown}
use Rattle.check_reuse.specs.declared.nodes.Reused.{Reused}
use Rattle.check_reuse.specs.declared.nodes.Reused.TheVariants.{Bound, Refused}
use Rattle.check_reuse.specs.Reuse.{nodes_only, bound_of, IsFirstNodeCause, IsShownBound, IsReuse}
use Rattle.check_reuse.proofs.NodesAlone.{alone, on-few}

module _ (i : Instance) (c : Cert) where
  -- of the nodes alone the first cause among those on nodes is the first of all
  first-alone : (why : Why) → IsFirstNodeCause i c why → IsFirstCause i (nodes_only c) why
  first-alone why f = record { holds = alone i c why f.on_nodes f.holds; least = before }
    where
      before : (other : Why) → Cause i (nodes_only c) other → cause_number why ≤ cause_number other
      before (NotAnArc n) k = f.least (NotAnArc n) tt k
      before (EmptyHalf n) k = f.least (EmptyHalf n) tt k
      before (NotPinned n a) k = f.least (NotPinned n a) tt k
      before (BoundTooHigh said shown) k = omega (arith, on-few i c why f.on_nodes)
      before (NotAShift n) k = let e = k.0 in cc
      before (ShiftCost n said price) k = let e = k.0 in cc
      before (WrongHeads g n) k = let e = k.0 in cc
      before (WrongCost said found) k = let e = k.0 in cc
      before (Outside byte period n) k = let e = k.0 in cc

  one-bound : (a b : Option ℕ) → IsShownBound i c a → IsShownBound i c b → a ≡ b
  one-bound a b h k =
      let same = same-proof h.proof k.proof c.nodes h.nodes k.nodes in
      let value = one-shown i (base_cuts i) k.proof h.value k.value (subst (λ (p : Proof). Shows i (base_cuts i) p h.value) same h.shows) k.shows in
      sym h.stated ∙ ap (λ (n : ℕ). bound_of i n) value ∙ k.stated

  pub one-answer : (a b : Reused) → IsReuse i c a → IsReuse i c b → a ≡ b
  one-answer (Bound a) (Bound b) h k = let e = one-bound a b h k in cc
  one-answer (Bound a) (Refused why) h k = absurd (h.right why k.on_nodes k.holds)
  one-answer (Refused why) (Bound b) h k = absurd (k.right why h.on_nodes h.holds)
  one-answer (Refused v) (Refused w) h k = let e = one-first i (nodes_only c) v w (first-alone v h) (first-alone w k) in cc
