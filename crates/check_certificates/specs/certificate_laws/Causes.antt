-- Why a certificate is refused.
use Rattle.std.specs.Prelude.{ℕ, ◌≡◌, ◌≤◌, ◌<◌, ◌+◌, cond, nat_eq, Option, None, Some, IsSome}
use Rattle.model_rosters.specs.declared.instance.Instance.{Instance}
use Rattle.model_rosters.specs.Cuts.{base_cuts}
use Rattle.model_rosters.specs.GreatestCost.{greatest_cost}
use Rattle.check_certificates.specs.declared.cert.Cert.{Cert}
use Rattle.check_certificates.specs.declared.why.Why.{Why}
use Rattle.check_certificates.specs.declared.why.Why.TheVariants.{NotAShift, ShiftCost, WrongHeads, WrongCost, NotAnArc, EmptyHalf, NotPinned, BoundTooHigh, Outside}
use Rattle.check_certificates.specs.Nodes.{Proof, preorder, visits}
use Rattle.check_certificates.specs.RosterCauses.{IsFirstNoShift, IsFirstMispriced, IsFirstOutOfRange, IsMiscounted, IsFirstOutside}
use Rattle.check_certificates.specs.NodeCauses.{IsFirstNoArc, IsFirstEmptyHalf, IsFirstUnpinned}
use Rattle.check_certificates.specs.certificate_laws.Accepted.{bound_number}
use Rattle.check_certificates.specs.certificate_laws.Shown.{Shows}

-- a shown value as it is stated: one more than the greatest cost is none
abbrev pub stated_bound : Instance → ℕ → Option ℕ
stated_bound i v = cond (nat_eq v (greatest_cost i + 1)) None (Some v)

-- the nodes show v, and the bound is above it
pub record IsAbove (i : Instance) (c : Cert) (shown : Option ℕ) : Type 0 where
  pub proof : Proof
  pub nodes : preorder proof ≡ c.nodes
  pub value : ℕ
  pub shows : Shows i (base_cuts i) proof value
  pub less : value < bound_number i c.bound
  pub stated : stated_bound i value ≡ shown

-- what is wrong with the certificate, at the first place where it is
abbrev pub Cause : Instance → Cert → Why → Type 0
Cause i c (NotAShift k) = IsSome c.cost × IsFirstNoShift i c.shifts k
Cause i c (ShiftCost k said least) = IsSome c.cost × IsFirstMispriced i c.shifts k said least
Cause i c (WrongHeads g n) = IsSome c.cost × IsFirstOutOfRange i c.shifts g n
Cause i c (WrongCost said found) = (c.cost ≡ Some said) × IsMiscounted i c.shifts said found
Cause i c (NotAnArc n) = (p : Proof) × (preorder p ≡ c.nodes) × IsFirstNoArc i (visits (base_cuts i) p) n
Cause i c (EmptyHalf n) = (p : Proof) × (preorder p ≡ c.nodes) × IsFirstEmptyHalf i (visits (base_cuts i) p) n
Cause i c (NotPinned n a) =
    (p : Proof) × (preorder p ≡ c.nodes) × IsFirstUnpinned i (visits (base_cuts i) p) n a
Cause i c (BoundTooHigh said shown) = (c.bound ≡ said) × IsAbove i c shown
Cause i c (Outside byte period n) = IsSome c.cost × IsFirstOutside i c.shifts byte period n

-- the causes in their order
abbrev pub cause_number : Why → ℕ
cause_number (NotAShift k) = 1
cause_number (ShiftCost k said least) = 2
cause_number (WrongHeads g n) = 3
cause_number (WrongCost said found) = 4
cause_number (NotAnArc n) = 5
cause_number (EmptyHalf n) = 6
cause_number (NotPinned n a) = 7
cause_number (BoundTooHigh said shown) = 8
cause_number (Outside byte period n) = 9

-- the cause of least number
pub record IsFirstCause (i : Instance) (c : Cert) (why : Why) : Type 0 where
  pub holds : Cause i c why
  pub least : (other : Why) → Cause i c other → cause_number why ≤ cause_number other
