-- What a search finds for a job.
use Rattle.std.proofs.Common.{ℕ, ◌≤◌, Bool}
use Rattle.std.specs.Prelude.{Result, Ok, Err, IfOk}
use Rattle.model_rosters.specs.SoundInstance.{IsSoundInstance}
use Rattle.search_watch.proofs.WithinLemmas.{within-all}
use Rattle.search_primal.specs.declared.job.Job.{Job}
use Rattle.search_primal.specs.Jobs.{IsJob}
use Rattle.search_branch_price.specs.declared.found.Found.{Found}
use Rattle.search_branch_price.specs.declared.task.SearchTask.{SearchTask}
use Rattle.search_branch_price.specs.Found.{IsFound, IsFoundAtRoot}
use Rattle.search_branch_price.specs.Tasks.{IsJobDone, task_of, IsTaskDone}
use Rattle.search_branch_price.proofs.NoDearer.{found-no-dearer}

-- what is found at the root is found for each task
pub root-task : (t : SearchTask) → IsSoundInstance t.day.instance.now → 1 ≤ t.turns → (patient strict : Bool) (now : ℕ) (f : Found) → IsFoundAtRoot t.day.instance.now f → IsTaskDone t patient strict now now f
root-task t sound some patient strict now f h = record {
  found = within-all patient t.turns (λ k. IsFound t.day.instance.now strict k f) (h.found strict t.turns some);
  falls = found-no-dearer t.day.instance.now sound f h.found t.start.shifts.now;
  counted = h.counted now;
}

-- and for each job
pub at-root : (j : Job) → IsJob j → (patient strict : Bool) (now : ℕ) (f : Found) → IsFoundAtRoot j.searched.day.instance.now f → IsJobDone j patient strict now now f
at-root j is patient strict now f h = root-task (task_of j) is.searched.is.day.sound is.some patient strict now f h

-- two facts on a result give a third one
pub both-ok : {A E : Type 0} (r : Result A E) (P Q S : A → Type 0) → ((x : A) → P x → Q x → S x) → IfOk r P → IfOk r Q → IfOk r S
both-ok (Ok x) P Q S f p q = f x p q
both-ok (Err e) P Q S f p q = tt
