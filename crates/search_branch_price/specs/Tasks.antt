-- What is asked of a search, and what comes of it.
use Rattle.std.specs.Prelude.{ℕ, ◌≤◌, Bool, length}
use Rattle.model_rosters.specs.Folds.{Each}
use Rattle.check_certificates.specs.Sound.{IsSoundShift}
use Rattle.lp_master_rows.specs.search_day.Days.{IsDay}
use Rattle.search_watch.specs.Within.{IsWithin}
use Rattle.search_primal.specs.OldRosters.{IsNoDearerThan}
use Rattle.search_primal.specs.declared.job.Job.{Job}
use Rattle.search_branch_price.specs.declared.found.Found.{Found}
use Rattle.search_branch_price.specs.declared.task.SearchTask.{SearchTask}
use Rattle.search_branch_price.specs.Found.{IsFound, AreCounted}

-- a sound day is to be searched in 1 to 10,000 turns, from at most 64 old shifts, of teams of the day
pub record IsSearchTask (t : SearchTask) : Type 0 where
  pub day : IsDay t.day
  pub some : 1 ≤ t.turns
  pub few : t.turns ≤ 10000
  pub shifts : Each (IsSoundShift t.day.instance.now) t.start.shifts.now
  pub few_shifts : length t.start.shifts.now ≤ 64

-- it is found with so many turns, or fewer where the watch is not patient, it costs no more than the old shifts,
-- and its nodes without prices are counted by a master whose count went from `before` to `now`
pub record IsTaskDone (t : SearchTask) (patient strict : Bool) (before now : ℕ) (f : Found) : Type 0 where
  pub found : IsWithin patient t.turns (λ k. IsFound t.day.instance.now strict k f)
  pub falls : IsNoDearerThan t.day.instance.now t.start.shifts.now f.cert.cost
  pub counted : AreCounted t.day.instance.now before now f

-- what is asked by it
abbrev pub task_of : Job → SearchTask
task_of j = record { day = j.searched.day; turns = j.turns; start = j.start }

-- what is found for it
abbrev pub IsJobDone : Job → Bool → Bool → ℕ → ℕ → Found → Type 0
IsJobDone j = IsTaskDone (task_of j)
