-- The first cause among the nodes so far, once one more node is seen.
use Rattle.std.proofs.Common.{◌≡◌, ℕ, arith, ◌+◌, Option, None, Some, List, [], ◌∷◌, ◌++◌, length}
use Rattle.model_rosters.specs.declared.instance.Instance.{Instance}
use Rattle.model_rosters.proofs.EachLemmas.{Each-weaker, Each-append}
use Rattle.check_certificates.specs.declared.why.Why.{Why}
use Rattle.check_certificates.specs.declared.why.Why.TheVariants.{NotAShift, ShiftCost, WrongHeads, WrongCost, NotAnArc, EmptyHalf, NotPinned, BoundTooHigh, Outside}
use Rattle.check_certificates.specs.Nodes.{Visit}
use Rattle.check_certificates.specs.NodeCauses.{SplitsNoArc, HasEmptyHalf, IsFirstNoArc, IsFirstEmptyHalf, IsFirstUnpinned}
use Rattle.check_certificates.specs.certificate_laws.Accepted.{IsOnArc, LeavesBoth, IsTight}
use Rattle.check_certificates.proofs.certificate_laws.NoCause.{no-arc-refused, empty-half-refused, unpinned-refused}
use Rattle.check_proofs.specs.Walked.{IsVisitCause, AreOnArcs, LeaveBoth, AreTight, IsVisitsCause, lesser_cause}
use Rattle.check_proofs.proofs.Firsts.{first-stays, first-added}

module _ (i : Instance) (vs : List Visit) (v : Visit) (n : ℕ) (count : n ≡ length vs + 1) where
  arcs-more : AreOnArcs i vs → IsOnArc i v.node → AreOnArcs i (vs ++ v ∷ [])
  arcs-more h k = Each-append _ vs (v ∷ []) h (k, tt)

  halves-more : LeaveBoth i vs → LeavesBoth i v.path v.node → LeaveBoth i (vs ++ v ∷ [])
  halves-more h k = Each-append _ vs (v ∷ []) h (k, tt)

  tight-more : AreTight i vs → IsTight i v.path v.node → AreTight i (vs ++ v ∷ [])
  tight-more h k = Each-append _ vs (v ∷ []) h (k, tt)

  arc-stays : (m : ℕ) → IsFirstNoArc i vs m → IsFirstNoArc i (vs ++ v ∷ []) m
  arc-stays m f = (f.0, first-stays _ vs (v ∷ []) m f.0 f.1)

  half-stays : (m : ℕ) → IsFirstEmptyHalf i vs m → IsFirstEmptyHalf i (vs ++ v ∷ []) m
  half-stays m f = (f.0, first-stays _ vs (v ∷ []) m f.0 f.1)

  pinned-stays : (m : ℕ) (a : _) → IsFirstUnpinned i vs m a → IsFirstUnpinned i (vs ++ v ∷ []) m a
  pinned-stays m a f = record { visit = f.visit; first = first-stays _ vs (v ∷ []) m f.visit f.first; arc = f.arc }

  arc-added : (m : ℕ) → AreOnArcs i vs → (m ≡ n) × SplitsNoArc i v.node → IsFirstNoArc i (vs ++ v ∷ []) m
  arc-added m h k = (v, first-added _ vs v m (Each-weaker _ _ vs (λ u g w. no-arc-refused i u.node g w) h) k.1 (omega (arith, k.0)))

  half-added : (m : ℕ) → LeaveBoth i vs → m ≡ n → HasEmptyHalf i v.path v.node → IsFirstEmptyHalf i (vs ++ v ∷ []) m
  half-added m h e k = (v, first-added _ vs v m (Each-weaker _ _ vs (λ u g w. empty-half-refused i u.path u.node g w) h) k (omega (arith, e)))

  pub one-more : (why own : Option Why) → IsVisitsCause i vs why → IsVisitCause i v n own → IsVisitsCause i (vs ++ v ∷ []) (lesser_cause why own)
  one-more None None h k = (arcs-more h.0 k.on_arc, halves-more h.1 k.halves, tight-more h.2 k.tight)
  one-more None (Some (NotAnArc m)) h k = arc-added m h.0 k
  one-more None (Some (EmptyHalf m)) h k = (arcs-more h.0 k.1, half-added m h.1 k.0 k.2)
  one-more None (Some (NotPinned m a)) h k = (
    arcs-more h.0 k.1,
    halves-more h.1 k.2,
    record { visit = v; first = first-added _ vs v m (Each-weaker _ _ vs (λ u g w. unpinned-refused i u.path u.node g w) h.2) k.3 (omega (arith, k.0)); arc = k.4 },
  )
  one-more (Some (NotAnArc m)) None h k = arc-stays m h
  one-more (Some (NotAnArc m)) (Some (NotAnArc q)) h k = arc-stays m h
  one-more (Some (NotAnArc m)) (Some (EmptyHalf q)) h k = arc-stays m h
  one-more (Some (NotAnArc m)) (Some (NotPinned q a)) h k = arc-stays m h
  one-more (Some (EmptyHalf m)) None h k = (arcs-more h.0 k.on_arc, half-stays m h.1)
  one-more (Some (EmptyHalf m)) (Some (NotAnArc q)) h k = arc-added q h.0 k
  one-more (Some (EmptyHalf m)) (Some (EmptyHalf q)) h k = (arcs-more h.0 k.1, half-stays m h.1)
  one-more (Some (EmptyHalf m)) (Some (NotPinned q a)) h k = (arcs-more h.0 k.1, half-stays m h.1)
  one-more (Some (NotPinned m b)) None h k = (arcs-more h.0 k.on_arc, halves-more h.1 k.halves, pinned-stays m b h.2)
  one-more (Some (NotPinned m b)) (Some (NotAnArc q)) h k = arc-added q h.0 k
  one-more (Some (NotPinned m b)) (Some (EmptyHalf q)) h k = (arcs-more h.0 k.1, half-added q h.1 k.0 k.2)
  one-more (Some (NotPinned m b)) (Some (NotPinned q a)) h k = (arcs-more h.0 k.1, halves-more h.1 k.2, pinned-stays m b h.2)
  one-more (Some (NotAShift m)) own h k = absurd h
  one-more (Some (ShiftCost m said least)) own h k = absurd h
  one-more (Some (WrongHeads g m)) own h k = absurd h
  one-more (Some (WrongCost said found)) own h k = absurd h
  one-more (Some (BoundTooHigh said shown)) own h k = absurd h
  one-more (Some (Outside byte period m)) own h k = absurd h
  one-more why (Some (NotAShift m)) h k = absurd k
  one-more why (Some (ShiftCost m said least)) h k = absurd k
  one-more why (Some (WrongHeads g m)) h k = absurd k
  one-more why (Some (WrongCost said found)) h k = absurd k
  one-more why (Some (BoundTooHigh said shown)) h k = absurd k
  one-more why (Some (Outside byte period m)) h k = absurd k
