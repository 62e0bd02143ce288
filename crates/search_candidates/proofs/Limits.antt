-- The best roster costs no more than the greatest cost.
use Rattle.std.proofs.Common.{◌≤◌, ◌+◌, Option, None, Some, IfSome, arith}
use Rattle.model_rosters.specs.declared.instance.Instance.{Instance}
use Rattle.model_rosters.specs.GreatestCost.{greatest_cost}
use Rattle.model_rosters.specs.SoundInstance.{IsSoundInstance}
use Rattle.check_certificates.specs.RosterCauses.{duties, stated_prices}
use Rattle.law_bounds.proofs.RosterCosts.{roster-costs-le}
use Rattle.search_candidates.specs.declared.roster.Roster.{Roster}
use Rattle.search_candidates.specs.Rosters.{IsGoodRoster}
use Rattle.search_candidates.specs.Offers.{limit_of}

pub cost-most : (i : Instance) (r : Roster) → IsSoundInstance i → IsGoodRoster i r → r.cost ≤ greatest_cost i
cost-most i r sound good = roster-costs-le i sound (duties r.shifts) r.cost (record {
  prices = stated_prices r.shifts;
  allowed = good.stated.roster;
  total = good.stated.total;
})

pub limit-most : (i : Instance) (best : Option Roster) → IsSoundInstance i → IfSome best (IsGoodRoster i)
    → limit_of i best ≤ greatest_cost i + 1
limit-most i None sound good = omega arith
limit-most i (Some r) sound good = let k = cost-most i r sound good in omega (arith, k)
