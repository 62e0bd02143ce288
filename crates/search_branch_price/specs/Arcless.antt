-- Days without arcs.
use Rattle.std.specs.Prelude.{Option, IfSome}
use Rattle.lp_master_rows.specs.declared.search_day.day.Day.{Day}
use Rattle.model_rosters.specs.declared.instance.Instance.{Instance}
use Rattle.model_rosters.specs.Cuts.{base_cuts}
use Rattle.law_bounds.specs.Pinned.{IsPinnedValue}
use Rattle.search_candidates.specs.declared.roster.Roster.{Roster}
use Rattle.search_candidates.specs.Rosters.{IsGoodRoster}
use Rattle.search_candidates.specs.Starts.{HasStart, StartsWith}
use Rattle.search_candidates.specs.Offers.{limit_of}
use Rattle.search_primal.specs.Jobs.{IsBusyDay}
use Rattle.search_branch_price.specs.Found.{HasNoArc}

-- a sound day that is not plainly infeasible, and of which no tree has an arc
pub record IsArclessDay (d : Day) : Type 0 where
  pub is : IsBusyDay d
  pub none : HasNoArc d.instance.now

-- an allowed roster that costs what the counts of the root do, or none where these are of no roster
pub record IsRootRoster (i : Instance) (best : Option Roster) : Type 0 where
  pub costs : IsPinnedValue i (base_cuts i) (limit_of i best)
  pub good : IfSome best (IsGoodRoster i)
  pub start : HasStart i → StartsWith i best
