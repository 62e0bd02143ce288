-- The causes in their order.
use Rattle.std.proofs.Common.{◌≡◌, ℕ, arith, Option, None, Some, MatchOption, List, refl, sym, subst, inl, inr}
use Rattle.std.specs.Prelude.{◌≢◌}
use Rattle.model_rosters.specs.declared.instance.Cell.{Cell}
use Rattle.model_rosters.specs.declared.instance.Instance.{Instance}
use Rattle.model_rosters.specs.declared.instance.Shift.{Shift}
use Rattle.model_rosters.specs.Coverage.{covered, IsWithinCell}
use Rattle.model_rosters.specs.Duties.{Duty}
use Rattle.model_rosters.specs.Folds.{Each}
use Rattle.model_rosters.specs.Rosters.{ArePrices, HasHeads, roster_cost}
use Rattle.model_rosters.specs.Teams.{Team, teams}
use Rattle.check_certificates.specs.declared.why.Why.{Why}
use Rattle.check_certificates.specs.declared.why.Why.TheVariants.{NotAShift, ShiftCost, WrongHeads, WrongCost, NotAnArc, EmptyHalf, NotPinned, BoundTooHigh, Outside}
use Rattle.check_certificates.specs.RosterCauses.{duties, IsOutOfRange, IsOutside}
use Rattle.check_certificates.specs.RosterCauses.{stated_prices}
use Rattle.check_parts.specs.roster_part.Faults.{IsRightlyStated, IsPriceCause, IsHeadsCause, IsRosterCause}
use Rattle.check_parts.proofs.roster_part.Items.{no-first}
use Rattle.check_parts.proofs.roster_part.WordPrices.{no_words, no_prices}

pub never_out : (ds : List Duty) (t : Team) → HasHeads ds t → IsOutOfRange ds t → ⊥
never_out ds t h (inl l) = omega (arith, h.least)
never_out ds t h (inr l) = omega (arith, h.most)

pub never_outside : (i : Instance) (ds : List Duty) (c : Cell) → IsWithinCell c (covered i.grammar c ds) → IsOutside i ds c → ⊥
never_outside i ds c h (inl l) = omega (arith, h.floor)
never_outside i ds c h (inr l) = omega (arith, h.ceiling)

module _ (i : Instance) (cost : ℕ) (shifts : List Shift) where
  pub price_cause : (why : Why) → IsPriceCause i shifts why → IsRosterCause i cost shifts why
  price_cause (NotAShift k) h = h
  price_cause (ShiftCost k said least) h = h
  price_cause (WrongHeads g n) h = absurd h
  price_cause (WrongCost said found) h = absurd h
  price_cause (NotAnArc n) h = absurd h
  price_cause (EmptyHalf n) h = absurd h
  price_cause (NotPinned n a) h = absurd h
  price_cause (BoundTooHigh said shown) h = absurd h
  price_cause (Outside byte period n) h = absurd h

  module _ (prices : ArePrices i (duties shifts) (stated_prices shifts)) where
    pub heads_cause : (why : Why) → IsHeadsCause i shifts why → IsRosterCause i cost shifts why
    heads_cause (NotAShift k) h = absurd h
    heads_cause (ShiftCost k said least) h = absurd h
    heads_cause (WrongHeads g n) h = (no_words i shifts prices, no_prices i shifts prices, h)
    heads_cause (WrongCost said found) h = absurd h
    heads_cause (NotAnArc n) h = absurd h
    heads_cause (EmptyHalf n) h = absurd h
    heads_cause (NotPinned n a) h = absurd h
    heads_cause (BoundTooHigh said shown) h = absurd h
    heads_cause (Outside byte period n) h = absurd h

    pub cost_cause : (why : Why) → Each (HasHeads (duties shifts)) (teams i) → cost ≢ roster_cost i (duties shifts) (stated_prices shifts)
        → why ≡ WrongCost cost (roster_cost i (duties shifts) (stated_prices shifts)) → IsRosterCause i cost shifts why
    cost_cause why heads other e =
        subst (IsRosterCause i cost shifts) (sym e) (
          no_words i shifts prices,
          no_prices i shifts prices,
          λ g n f. no-first (IsOutOfRange (duties shifts)) (HasHeads (duties shifts)) (teams i) f.place f.team (never_out (duties shifts)) heads f.first,
          refl,
          record { prices = stated_prices shifts; priced = prices; cost = refl; other = other },
        )

    -- what the comparison of the costs tells
    pub cost_told : (r : Option Why) → Each (HasHeads (duties shifts)) (teams i)
        → MatchOption r (cost ≡ roster_cost i (duties shifts) (stated_prices shifts))
        (λ why. (cost ≢ roster_cost i (duties shifts) (stated_prices shifts)) × (why ≡ WrongCost cost (roster_cost i (duties shifts) (stated_prices shifts))))
        → MatchOption r (IsRightlyStated i cost shifts) (IsRosterCause i cost shifts)
    cost_told None heads h = record { prices = prices; heads = heads; total = h }
    cost_told (Some why) heads h = cost_cause why heads h.0 h.1
