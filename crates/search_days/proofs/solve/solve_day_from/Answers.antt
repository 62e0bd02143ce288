use Rattle.std.proofs.Common.{List, subst}
use Rattle.model_rosters.specs.declared.instance.Shift.{Shift}
use Rattle.search_days.specs.Solutions.{IsDaySolved}
use Rattle.search_days.proofs.solve.solve_day_from.Goals as goal

pub solved-solution-requires : goal.solved-solution-requires
solved-solution-requires g c = record {
  day = record { sound = c.requires.sound; graph = c.in_ok-graph.ensures.graph };
  some = c.requires.some;
  few = c.requires.few;
  shifts = rw c.as_slice.ensures c.requires.old.shifts;
  few_shifts = rw c.as_slice.ensures c.requires.old.few;
}

pub returns-clause-solution : goal.returns-clause-solution
returns-clause-solution g c =
    subst (λ (ss : List Shift). IsDaySolved c.args.instance.now c.args.turns ss (g.W.Watch.patient c.args.watch.now) (g.M.Master.strict c.args.master.now) (g.M.Master.refused c.args.master.now) (g.M.Master.refused c.solved-solution.new.master) c.in_ok-solution.field-0)
    c.as_slice.ensures c.in_ok-solution.ensures.solution
