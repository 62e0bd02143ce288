-- What is wrong with one node on its path, and with the nodes so far.
use Rattle.std.specs.Prelude.{ℕ, ◌≡◌, cond, nat_lt, Option, None, Some, List}
use Rattle.model_rosters.specs.declared.instance.Instance.{Instance}
use Rattle.model_rosters.specs.Folds.{Each}
use Rattle.check_certificates.specs.declared.why.Why.{Why}
use Rattle.check_certificates.specs.declared.why.Why.TheVariants.{NotAShift, ShiftCost, WrongHeads, WrongCost, NotAnArc, EmptyHalf, NotPinned, BoundTooHigh, Outside}
use Rattle.check_certificates.specs.Nodes.{Visit}
use Rattle.model_rosters.specs.arc_laws.Loose.{IsFirstLoose}
use Rattle.check_certificates.specs.NodeCauses.{SplitsNoArc, HasEmptyHalf, IsUnpinned, IsFirstNoArc, IsFirstEmptyHalf, IsFirstUnpinned}
use Rattle.check_certificates.specs.certificate_laws.Accepted.{IsOnArc, LeavesBoth, IsTight}
use Rattle.check_certificates.specs.certificate_laws.Causes.{cause_number}

-- nothing is wrong with the visit
pub record IsRight (i : Instance) (v : Visit) : Type 0 where
  pub on_arc : IsOnArc i v.node
  pub halves : LeavesBoth i v.path v.node
  pub tight : IsTight i v.path v.node

-- what is wrong with visit number n
abbrev pub IsVisitCause : Instance → Visit → ℕ → Option Why → Type 0
IsVisitCause i v n None = IsRight i v
IsVisitCause i v n (Some (NotAnArc m)) = (m ≡ n) × SplitsNoArc i v.node
IsVisitCause i v n (Some (EmptyHalf m)) = (m ≡ n) × IsOnArc i v.node × HasEmptyHalf i v.path v.node
IsVisitCause i v n (Some (NotPinned m a)) = (m ≡ n) × IsOnArc i v.node × LeavesBoth i v.path v.node
    × IsUnpinned i v.path v.node × IsFirstLoose i v.path a
IsVisitCause i v n (Some (NotAShift k)) = ⊥
IsVisitCause i v n (Some (ShiftCost k said least)) = ⊥
IsVisitCause i v n (Some (WrongHeads g k)) = ⊥
IsVisitCause i v n (Some (WrongCost said found)) = ⊥
IsVisitCause i v n (Some (BoundTooHigh said shown)) = ⊥
IsVisitCause i v n (Some (Outside byte period k)) = ⊥

abbrev pub AreOnArcs : Instance → List Visit → Type 0
AreOnArcs i vs = Each (λ (v : Visit). IsOnArc i v.node) vs

abbrev pub LeaveBoth : Instance → List Visit → Type 0
LeaveBoth i vs = Each (λ (v : Visit). LeavesBoth i v.path v.node) vs

abbrev pub AreTight : Instance → List Visit → Type 0
AreTight i vs = Each (λ (v : Visit). IsTight i v.path v.node) vs

-- the first cause of least number among the visits
abbrev pub IsVisitsCause : Instance → List Visit → Option Why → Type 0
IsVisitsCause i vs None = AreOnArcs i vs × LeaveBoth i vs × AreTight i vs
IsVisitsCause i vs (Some (NotAnArc n)) = IsFirstNoArc i vs n
IsVisitsCause i vs (Some (EmptyHalf n)) = AreOnArcs i vs × IsFirstEmptyHalf i vs n
IsVisitsCause i vs (Some (NotPinned n a)) = AreOnArcs i vs × LeaveBoth i vs × IsFirstUnpinned i vs n a
IsVisitsCause i vs (Some (NotAShift k)) = ⊥
IsVisitsCause i vs (Some (ShiftCost k said least)) = ⊥
IsVisitsCause i vs (Some (WrongHeads g k)) = ⊥
IsVisitsCause i vs (Some (WrongCost said found)) = ⊥
IsVisitsCause i vs (Some (BoundTooHigh said shown)) = ⊥
IsVisitsCause i vs (Some (Outside byte period k)) = ⊥

-- the cause of lesser number, and the first of two of one number
abbrev pub lesser_cause : Option Why → Option Why → Option Why
lesser_cause None b = b
lesser_cause (Some a) None = Some a
lesser_cause (Some a) (Some b) = cond (nat_lt (cause_number b) (cause_number a)) (Some b) (Some a)
