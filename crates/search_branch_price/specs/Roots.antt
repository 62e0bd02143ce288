-- Prices of the root where the first turn of a search is stopped.
use Rattle.std.specs.Prelude.{ℕ, ◌≤◌, ◌<◌, ◌+◌, Bool, Option, IfSome, List, length}
use Rattle.model_rosters.specs.declared.instance.Cut.{Cut}
use Rattle.model_rosters.specs.declared.instance.Instance.{Instance}
use Rattle.model_rosters.specs.Cuts.{base_cuts}
use Rattle.law_bounds.specs.Infeasible.{IsPlainlyInfeasible}
use Rattle.law_bounds.specs.Priced.{IsPricedValue}
use Rattle.check_certificates.specs.Sound.{AreFit, ListNoZero}
use Rattle.check_certificates.specs.growing_laws.States.{IsLoosePath}
use Rattle.search_candidates.specs.declared.roster.Roster.{Roster}
use Rattle.search_candidates.specs.Offers.{limit_of}
use Rattle.search_candidates.specs.Rosters.{IsGoodRoster}
use Rattle.search_candidates.specs.Starts.{HasStart, StartsWith}
use Rattle.search_branch_price.specs.declared.found.Found.{Found}
use Rattle.search_branch_price.specs.declared.turn_end.RootPrices.{RootPrices}
use Rattle.search_branch_price.specs.Found.{IsFound, AreCounted}

-- prices that fit the cuts and are few enough for a written certificate, with what they show, which is below the
-- limit; they need not be best
pub record AreShown (i : Instance) (cuts : List Cut) (limit : ℕ) (own : RootPrices) : Type 0 where
  pub fit : AreFit i cuts own.prices
  pub listed : ListNoZero own.prices
  pub few : length own.prices.cell + length own.prices.mult ≤ 1498
  pub value : IsPricedValue i own.prices cuts own.value
  pub below : own.value < limit

-- the first turn of a search was stopped: the root, which leaves some arc more than one count, has prices that
-- show less than the best roster costs
pub record IsHaltedAtRoot (i : Instance) (best : Option Roster) (root : RootPrices) : Type 0 where
  pub shown : AreShown i (base_cuts i) (limit_of i best) root
  pub loose : IsLoosePath i (base_cuts i)
  pub busy : IsPlainlyInfeasible i → ⊥
  pub good : IfSome best (IsGoodRoster i)
  pub start : HasStart i → StartsWith i best

-- what is found then, without a turn that was taken whole
pub record IsFoundHaltedAtRoot (i : Instance) (f : Found) : Type 0 where
  pub found : (strict : Bool) → IsFound i strict 0 f
  pub counted : (before now : ℕ) → before ≤ now → AreCounted i before now f
