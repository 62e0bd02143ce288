-- Days that are searched, and what is asked of a search.
use Rattle.std.specs.Prelude.{◌≤◌, Option, length}
use Rattle.model_rosters.specs.Folds.{Each}
use Rattle.law_bounds.specs.Infeasible.{IsPlainlyInfeasible}
use Rattle.check_certificates.specs.Sound.{IsSoundShift}
use Rattle.check_parts.specs.priced_part.Filled.{TellsDerived}
use Rattle.lp_master_rows.specs.declared.search_day.day.Day.{Day}
use Rattle.lp_master_rows.specs.search_day.Days.{IsDay}
use Rattle.search_candidates.specs.declared.roster.Roster.{Roster}
use Rattle.search_primal.specs.declared.job.SearchedDay.{SearchedDay}
use Rattle.search_primal.specs.declared.job.Job.{Job}
use Rattle.search_primal.specs.OldRosters.{ReachesOld}

-- a sound day that is not plainly infeasible
pub record IsBusyDay (d : Day) : Type 0 where
  pub day : IsDay d
  pub busy : IsPlainlyInfeasible d.instance.now → ⊥

-- of such a day it is known which names derive a word
pub record IsSearchedDay (s : SearchedDay) : Type 0 where
  pub is : IsBusyDay s.day
  pub told : TellsDerived s.day.instance.now.grammar s.derives.now

-- such a day is to be searched in 1 to 10,000 turns, from at most 64 old shifts, of teams of the day
pub record IsJob (j : Job) : Type 0 where
  pub searched : IsSearchedDay j.searched
  pub some : 1 ≤ j.turns
  pub few : j.turns ≤ 10000
  pub shifts : Each (IsSoundShift j.searched.day.instance.now) j.start.shifts.now
  pub few_shifts : length j.start.shifts.now ≤ 64

-- where the old shifts are an allowed roster of the day, the best one costs at most as much
abbrev pub ReachesStart : Job → Option Roster → Type 0
ReachesStart j best = ReachesOld j.searched.day.instance.now j.start.shifts.now best
