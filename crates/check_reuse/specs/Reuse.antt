-- What the nodes of an old certificate show on a day.
use Rattle.std.specs.Prelude.{ℕ, ◌≡◌, ◌≤◌, cond, nat_lt, Option, None, Some, IfSome, List, []}
use Rattle.model_rosters.specs.declared.instance.Instance.{Instance}
use Rattle.model_rosters.specs.Cuts.{base_cuts}
use Rattle.model_rosters.specs.Duties.{Duty}
use Rattle.model_rosters.specs.GreatestCost.{greatest_cost}
use Rattle.model_rosters.specs.Rosters.{Costs}
use Rattle.check_certificates.specs.declared.cert.Cert.{Cert}
use Rattle.check_certificates.specs.declared.verdict.Verdict.{Verdict}
use Rattle.check_certificates.specs.declared.verdict.Verdict.TheVariants.{Yes, No}
use Rattle.check_certificates.specs.declared.why.Why.{Why}
use Rattle.check_certificates.specs.declared.why.Why.TheVariants.{NotAShift, ShiftCost, WrongHeads, WrongCost, NotAnArc, EmptyHalf, NotPinned, BoundTooHigh, Outside}
use Rattle.check_certificates.specs.Nodes.{Proof, preorder}
use Rattle.check_certificates.specs.certificate_laws.Causes.{Cause, cause_number}
use Rattle.check_certificates.specs.certificate_laws.Shown.{Shows}
use Rattle.check_reuse.specs.declared.nodes.Reused.{Reused}
use Rattle.check_reuse.specs.declared.nodes.Reused.TheVariants.{Bound, Refused}

-- the nodes alone: no roster, and the bound none
abbrev pub nodes_only : Cert → Cert
nodes_only c = record { shifts = []; cost = None; bound = None; nodes = c.nodes }

-- a shown value as a bound: none where it is above the greatest cost of a roster
abbrev pub bound_of : Instance → ℕ → Option ℕ
bound_of i v = cond (nat_lt (greatest_cost i) v) None (Some v)

-- the cause is on the tree of nodes: a split on no arc, one with an empty half, or a pinned leaf that
-- leaves an arc more than one count
abbrev pub IsOnNodes : Why → Type 0
IsOnNodes (NotAnArc n) = Unit {0}
IsOnNodes (EmptyHalf n) = Unit {0}
IsOnNodes (NotPinned n a) = Unit {0}
IsOnNodes (NotAShift k) = ⊥
IsOnNodes (ShiftCost k said least) = ⊥
IsOnNodes (WrongHeads g n) = ⊥
IsOnNodes (WrongCost said found) = ⊥
IsOnNodes (BoundTooHigh said shown) = ⊥
IsOnNodes (Outside byte period n) = ⊥

-- the first cause on the tree of nodes, whatever the certificate's roster and bound
pub record IsFirstNodeCause (i : Instance) (c : Cert) (why : Why) : Type 0 where
  pub on_nodes : IsOnNodes why
  pub holds : Cause i c why
  pub least : (other : Why) → IsOnNodes other → Cause i c other → cause_number why ≤ cause_number other

-- every allowed roster costs at least the bound, and none is allowed where it is none
pub record IsLowerBound (i : Instance) (bound : Option ℕ) : Type 0 where
  pub some : IfSome bound (λ b. (ds : List Duty) (amount : ℕ) → Costs i ds amount → b ≤ amount)
  pub none : bound ≡ None → (ds : List Duty) (amount : ℕ) → Costs i ds amount → ⊥

-- nothing is wrong with the nodes, and the bound is what their tree shows
pub record IsShownBound (i : Instance) (c : Cert) (bound : Option ℕ) : Type 0 where
  pub right : (why : Why) → IsOnNodes why → Cause i c why → ⊥
  pub proof : Proof
  pub nodes : preorder proof ≡ c.nodes
  pub value : ℕ
  pub shows : Shows i (base_cuts i) proof value
  pub stated : bound_of i value ≡ bound
  pub lower : IsLowerBound i bound

-- what the old nodes show on the day, or the first cause for which they show nothing
abbrev pub IsReuse : Instance → Cert → Reused → Type 0
IsReuse i c (Bound bound) = IsShownBound i c bound
IsReuse i c (Refused why) = IsFirstNodeCause i c why

-- what a verdict on the nodes alone tells
abbrev pub reuse_of : Verdict → Reused
reuse_of (Yes cost bound) = Bound None
reuse_of (No (BoundTooHigh said shown)) = Bound shown
reuse_of (No why) = Refused why
