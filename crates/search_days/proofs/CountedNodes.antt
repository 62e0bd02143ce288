-- What holds of what was found holds of a solution with it.
use Rattle.std.proofs.Common.{◌≤◌, ℕ, Bool, Result, Ok, Err, IfOk, arith, sym, subst}
use Rattle.model_rosters.specs.declared.memory.Memory.{Memory}
use Rattle.search_primal.specs.OldRosters.{IsNoDearerThan}
use Rattle.search_branch_price.specs.declared.found.Found.{Found}
use Rattle.search_branch_price.specs.declared.task.SearchTask.{SearchTask}
use Rattle.search_branch_price.specs.Found.{IsFound, AreCounted}
use Rattle.search_branch_price.specs.Tasks.{IsTaskDone}
use Rattle.search_watch.proofs.WithinLemmas.{within-map}
use Rattle.search_days.specs.declared.solution.Solution.{Solution}
use Rattle.search_days.specs.Solutions.{IsSearched, IsSolution, IsTaskSolved, IsWritten}

-- what a task finds was found by a search of at most 10,000 turns
pub done-searched : (t : SearchTask) (patient strict : Bool) (before now : ℕ) (f : Found) → t.turns ≤ 10000 → IsTaskDone t patient strict before now f → IsSearched t.day.instance.now f
done-searched t patient strict before now f most is =
    let few = is.found.few in
    (strict, is.found.used, omega (arith, few, most), is.found.holds)

-- with its text it is the solution of the task
pub done-solved : (t : SearchTask) (patient strict : Bool) (before now : ℕ) (f : Found) (r : Result Solution Memory) → IsTaskDone t patient strict before now f → IfOk r (IsWritten t.day.instance.now f)
    → IfOk r (IsTaskSolved t patient strict before now)
done-solved t patient strict before now f (Err e) is written = tt
done-solved t patient strict before now f (Ok s) is written = record {
  solution = within-map patient t.turns (λ k. IsFound t.day.instance.now strict k f) (λ k. IsSolution t.day.instance.now strict k s) (λ k few found. written.solution strict k found) is.found;
  falls = subst (λ (g : Found). IsNoDearerThan t.day.instance.now t.start.shifts.now g.cert.cost) (sym written.same) is.falls;
  counted = subst (λ (g : Found). AreCounted t.day.instance.now before now g) (sym written.same) is.counted;
}
