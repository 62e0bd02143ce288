-- The causes in their order: where none of lesser number holds, one that holds is the first.
use Rattle.std.proofs.Common.{◌≡◌, ℕ, arith, ◌≤◌, ◌<◌, Option, None, Some, IfSome, List, sym, refl, ap, subst, ◌∙◌}
use Rattle.std.specs.Prelude.{IsSome}
use Rattle.model_rosters.specs.declared.instance.Instance.{Instance}
use Rattle.model_rosters.specs.declared.instance.Shift.{Shift}
use Rattle.model_rosters.specs.Cuts.{base_cuts}
use Rattle.check_certificates.specs.declared.cert.Cert.{Cert}
use Rattle.check_certificates.specs.declared.why.Why.{Why}
use Rattle.check_certificates.specs.declared.why.Why.TheVariants.{NotAShift, ShiftCost, WrongHeads, WrongCost, NotAnArc, EmptyHalf, NotPinned, BoundTooHigh, Outside}
use Rattle.check_certificates.specs.Nodes.{Proof, preorder, visits}
use Rattle.check_certificates.specs.RosterCauses.{IsFirstOutside}
use Rattle.check_certificates.specs.certificate_laws.Accepted.{IsStated, bound_number, Accepts}
use Rattle.check_certificates.specs.certificate_laws.Causes.{Cause, cause_number, stated_bound, IsFirstCause}
use Rattle.check_certificates.specs.certificate_laws.Shown.{Shows}
use Rattle.check_certificates.proofs.certificate_laws.NoCause.{no-shift-refused, mispriced-refused, heads-refused, cost-refused, no-arc-cause, half-cause, pinned-cause, above-cause, has-cost}
use Rattle.check_parts.specs.roster_part.Faults.{IsRosterCause, HasNoOtherWord, HasNoOtherPrice, HasNoOtherHeads}
use Rattle.check_proofs.specs.Verdicts.{HasRightRoster, IsCoverageRight, States}
use Rattle.check_proofs.specs.Walked.{AreOnArcs, LeaveBoth, AreTight, IsVisitsCause}

module _ (i : Instance) (c : Cert) where
  -- no cause of lesser number holds
  abbrev pub NoneBelow : ℕ → Type 0
  NoneBelow n = (other : Why) → Cause i c other → n ≤ cause_number other

  from-one : NoneBelow 1
  from-one (NotAShift k) h = omega arith
  from-one (ShiftCost k said least) h = omega arith
  from-one (WrongHeads g n) h = omega arith
  from-one (WrongCost said found) h = omega arith
  from-one (NotAnArc n) h = omega arith
  from-one (EmptyHalf n) h = omega arith
  from-one (NotPinned n a) h = omega arith
  from-one (BoundTooHigh said shown) h = omega arith
  from-one (Outside byte period n) h = omega arith

  from-words : HasNoOtherWord i c.shifts → NoneBelow 2
  from-words none (NotAShift k) h = absurd (none k h.1)
  from-words none (ShiftCost k said least) h = omega arith
  from-words none (WrongHeads g n) h = omega arith
  from-words none (WrongCost said found) h = omega arith
  from-words none (NotAnArc n) h = omega arith
  from-words none (EmptyHalf n) h = omega arith
  from-words none (NotPinned n a) h = omega arith
  from-words none (BoundTooHigh said shown) h = omega arith
  from-words none (Outside byte period n) h = omega arith

  from-prices : NoneBelow 2 → HasNoOtherPrice i c.shifts → NoneBelow 3
  from-prices b none (NotAShift k) h = let l = b (NotAShift k) h in absurd (omega arith)
  from-prices b none (ShiftCost k said least) h = absurd (none k said least h.1)
  from-prices b none (WrongHeads g n) h = omega arith
  from-prices b none (WrongCost said found) h = omega arith
  from-prices b none (NotAnArc n) h = omega arith
  from-prices b none (EmptyHalf n) h = omega arith
  from-prices b none (NotPinned n a) h = omega arith
  from-prices b none (BoundTooHigh said shown) h = omega arith
  from-prices b none (Outside byte period n) h = omega arith

  from-heads : NoneBelow 3 → HasNoOtherHeads i c.shifts → NoneBelow 4
  from-heads b none (NotAShift k) h = let l = b (NotAShift k) h in absurd (omega arith)
  from-heads b none (ShiftCost k said least) h = let l = b (ShiftCost k said least) h in absurd (omega arith)
  from-heads b none (WrongHeads g n) h = absurd (none g n h.1)
  from-heads b none (WrongCost said found) h = omega arith
  from-heads b none (NotAnArc n) h = omega arith
  from-heads b none (EmptyHalf n) h = omega arith
  from-heads b none (NotPinned n a) h = omega arith
  from-heads b none (BoundTooHigh said shown) h = omega arith
  from-heads b none (Outside byte period n) h = omega arith

  -- the first cause on the stated roster is the first of all
  roster-cause : (amount : ℕ) (why : Why) → c.cost ≡ Some amount → IsRosterCause i amount c.shifts why → IsFirstCause i c why
  roster-cause amount (NotAShift k) e h = record { holds = (subst (λ (o : Option ℕ). IsSome o) (sym e) refl, h); least = from-one }
  roster-cause amount (ShiftCost k said least) e h = record { holds = (subst (λ (o : Option ℕ). IsSome o) (sym e) refl, h.1); least = from-words h.0 }
  roster-cause amount (WrongHeads g n) e h = record { holds = (subst (λ (o : Option ℕ). IsSome o) (sym e) refl, h.2); least = from-prices (from-words h.0) h.1 }
  roster-cause amount (WrongCost said found) e h = record {
    holds = (e ∙ ap (λ (n : ℕ). Some n) (sym h.3), h.4);
    least = from-heads (from-prices (from-words h.0) h.1) h.2;
  }
  roster-cause amount (NotAnArc n) e h = absurd h
  roster-cause amount (EmptyHalf n) e h = absurd h
  roster-cause amount (NotPinned n a) e h = absurd h
  roster-cause amount (BoundTooHigh said shown) e h = absurd h
  roster-cause amount (Outside byte period n) e h = absurd h

  pub roster-first : (amount : ℕ) (shifts : List Shift) (why : Why) → States c (Some amount) shifts → IsRosterCause i amount shifts why → IsFirstCause i c why
  roster-first amount shifts why s h = roster-cause amount why s.same_cost (subst (λ (xs : List Shift). IsRosterCause i amount xs why) (sym s.same_shifts) h)

  -- a roster that is stated rightly has none of the causes 1 to 4
  pub from-roster : HasRightRoster i c.cost c.shifts → NoneBelow 5
  from-roster r (NotAShift k) h = let s = has-cost c.cost h.0 r in absurd (no-shift-refused i c.shifts k s.2.prices h.1)
  from-roster r (ShiftCost k said least) h = let s = has-cost c.cost h.0 r in absurd (mispriced-refused i c.shifts k said least s.2.prices h.1)
  from-roster r (WrongHeads g n) h = let s = has-cost c.cost h.0 r in absurd (heads-refused i c.shifts g n s.2.heads h.1)
  from-roster r (WrongCost said found) h =
      let e = h.0 in
      let s = has-cost c.cost (subst (λ (o : Option ℕ). IsSome o) (sym e) refl) r in
      let amount : s.0 ≡ said = cc in
      absurd (cost-refused i c.shifts said found s.2.prices (sym s.2.total ∙ amount) h.1)
  from-roster r (NotAnArc n) h = omega arith
  from-roster r (EmptyHalf n) h = omega arith
  from-roster r (NotPinned n a) h = omega arith
  from-roster r (BoundTooHigh said shown) h = omega arith
  from-roster r (Outside byte period n) h = omega arith

  module _ (p : Proof) (whole : preorder p ≡ c.nodes) where
    from-arcs : NoneBelow 5 → AreOnArcs i (visits (base_cuts i) p) → NoneBelow 6
    from-arcs b each (NotAnArc n) h = absurd (no-arc-cause i c p whole n each h)
    from-arcs b each (NotAShift k) h = let l = b (NotAShift k) h in absurd (omega arith)
    from-arcs b each (ShiftCost k said least) h = let l = b (ShiftCost k said least) h in absurd (omega arith)
    from-arcs b each (WrongHeads g n) h = let l = b (WrongHeads g n) h in absurd (omega arith)
    from-arcs b each (WrongCost said found) h = let l = b (WrongCost said found) h in absurd (omega arith)
    from-arcs b each (EmptyHalf n) h = omega arith
    from-arcs b each (NotPinned n a) h = omega arith
    from-arcs b each (BoundTooHigh said shown) h = omega arith
    from-arcs b each (Outside byte period n) h = omega arith

    from-halves : NoneBelow 6 → LeaveBoth i (visits (base_cuts i) p) → NoneBelow 7
    from-halves b each (EmptyHalf n) h = absurd (half-cause i c p whole n each h)
    from-halves b each (NotAShift k) h = let l = b (NotAShift k) h in absurd (omega arith)
    from-halves b each (ShiftCost k said least) h = let l = b (ShiftCost k said least) h in absurd (omega arith)
    from-halves b each (WrongHeads g n) h = let l = b (WrongHeads g n) h in absurd (omega arith)
    from-halves b each (WrongCost said found) h = let l = b (WrongCost said found) h in absurd (omega arith)
    from-halves b each (NotAnArc n) h = let l = b (NotAnArc n) h in absurd (omega arith)
    from-halves b each (NotPinned n a) h = omega arith
    from-halves b each (BoundTooHigh said shown) h = omega arith
    from-halves b each (Outside byte period n) h = omega arith

    from-tight : NoneBelow 7 → AreTight i (visits (base_cuts i) p) → NoneBelow 8
    from-tight b each (NotPinned n a) h = absurd (pinned-cause i c p whole n a each h)
    from-tight b each (NotAShift k) h = let l = b (NotAShift k) h in absurd (omega arith)
    from-tight b each (ShiftCost k said least) h = let l = b (ShiftCost k said least) h in absurd (omega arith)
    from-tight b each (WrongHeads g n) h = let l = b (WrongHeads g n) h in absurd (omega arith)
    from-tight b each (WrongCost said found) h = let l = b (WrongCost said found) h in absurd (omega arith)
    from-tight b each (NotAnArc n) h = let l = b (NotAnArc n) h in absurd (omega arith)
    from-tight b each (EmptyHalf n) h = let l = b (EmptyHalf n) h in absurd (omega arith)
    from-tight b each (BoundTooHigh said shown) h = omega arith
    from-tight b each (Outside byte period n) h = omega arith

    from-bound : (v : ℕ) → NoneBelow 8 → Shows i (base_cuts i) p v → bound_number i c.bound ≤ v → NoneBelow 9
    from-bound v b shows enough (BoundTooHigh said shown) h = absurd (above-cause i c p whole said shown v shows enough h)
    from-bound v b shows enough (NotAShift k) h = let l = b (NotAShift k) h in absurd (omega arith)
    from-bound v b shows enough (ShiftCost k said least) h = let l = b (ShiftCost k said least) h in absurd (omega arith)
    from-bound v b shows enough (WrongHeads g n) h = let l = b (WrongHeads g n) h in absurd (omega arith)
    from-bound v b shows enough (WrongCost said found) h = let l = b (WrongCost said found) h in absurd (omega arith)
    from-bound v b shows enough (NotAnArc n) h = let l = b (NotAnArc n) h in absurd (omega arith)
    from-bound v b shows enough (EmptyHalf n) h = let l = b (EmptyHalf n) h in absurd (omega arith)
    from-bound v b shows enough (NotPinned n a) h = let l = b (NotPinned n a) h in absurd (omega arith)
    from-bound v b shows enough (Outside byte period n) h = omega arith

    -- the first cause among the nodes is the first of all
    pub node-first : (why : Why) → HasRightRoster i c.cost c.shifts → IsVisitsCause i (visits (base_cuts i) p) (Some why) → IsFirstCause i c why
    node-first (NotAnArc n) r h = record { holds = (p, whole, h); least = from-roster r }
    node-first (EmptyHalf n) r h = record { holds = (p, whole, h.1); least = from-arcs (from-roster r) h.0 }
    node-first (NotPinned n a) r h = record { holds = (p, whole, h.2); least = from-halves (from-arcs (from-roster r) h.0) h.1 }
    node-first (NotAShift k) r h = absurd h
    node-first (ShiftCost k said least) r h = absurd h
    node-first (WrongHeads g n) r h = absurd h
    node-first (WrongCost said found) r h = absurd h
    node-first (BoundTooHigh said shown) r h = absurd h
    node-first (Outside byte period n) r h = absurd h

    module _ (r : HasRightRoster i c.cost c.shifts) (none : IsVisitsCause i (visits (base_cuts i) p) None) (v : ℕ) (shows : Shows i (base_cuts i) p v) where
      -- so is a bound that is too high, where nothing is wrong with the nodes
      pub bound-first : v < bound_number i c.bound → IsFirstCause i c (BoundTooHigh c.bound (stated_bound i v))
      bound-first less = record {
        holds = (refl, record { proof = p; nodes = whole; value = v; shows = shows; less = less; stated = refl });
        least = from-tight (from-halves (from-arcs (from-roster r) none.0) none.1) none.2;
      }

      pub outside-first : (byte period n : ℕ) → bound_number i c.bound ≤ v → IsSome c.cost → IsFirstOutside i c.shifts byte period n → IsFirstCause i c (Outside byte period n)
      outside-first byte period n enough some h = record {
        holds = (some, h);
        least = from-bound v (from-tight (from-halves (from-arcs (from-roster r) none.0) none.1) none.2) shows enough;
      }

      -- nothing is wrong
      pub accepted : bound_number i c.bound ≤ v → IfSome c.cost (λ (n : ℕ). IsCoverageRight i c.shifts) → Accepts i c
      accepted enough coverage = record {
        roster = both c.cost r coverage;
        proof = p;
        nodes = whole;
        proved = record { on_arcs = none.0; halves = none.1; tight = none.2; shown = v; shows = shows; enough = enough };
      }
        where
          both : (cost : Option ℕ) → HasRightRoster i cost c.shifts → IfSome cost (λ (n : ℕ). IsCoverageRight i c.shifts) → IfSome cost (IsStated i c.shifts)
          both None a b = tt
          both (Some n) a b = record { roster = record { shifts = a.prices; heads = a.heads; coverage = b }; total = sym a.total }
