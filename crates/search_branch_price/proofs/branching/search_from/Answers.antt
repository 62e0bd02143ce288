use Rattle.std.proofs.Common.{rules}
use Rattle.std.proofs.lemmas.Result.{IfOk-weaker}
use Rattle.search_branch_price.specs.Tasks.{IsTaskDone}
use Rattle.search_branch_price.proofs.JobsLemmas.{root-task}
use Rattle.search_branch_price.proofs.branching.search_from.Goals as goal

pub returns-then-is_plainly_infeasible-clause-found :
    goal.returns-then-is_plainly_infeasible-clause-found
returns-then-is_plainly_infeasible-clause-found g c =
    let t = c.args.task.now in
    let patient = g.W.Watch.patient c.args.watch.now in
    let strict = g.M.Master.strict c.args.master.now in
    let now = g.M.Master.refused c.args.master.now in
    IfOk-weaker c.no_roster.result _ (IsTaskDone t patient strict now now)
    (λ f h. root-task t c.requires.task.day.sound c.requires.task.some patient strict now f h) c.no_roster.ensures

pub search_busy-requires-clause-job : goal.search_busy-requires-clause-job
search_busy-requires-clause-job g c = record {
  searched = record { is = record { day = c.requires.task.day; busy = search rules }; told = search rules };
  some = c.requires.task.some;
  few = c.requires.task.few;
  shifts = c.requires.task.shifts;
  few_shifts = c.requires.task.few_shifts;
}

pub returns-clause-found : goal.returns-clause-found
returns-clause-found g c = c.search_busy.ensures.found
