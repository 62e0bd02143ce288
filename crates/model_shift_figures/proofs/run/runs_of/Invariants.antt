use Rattle.std.proofs.Common.{◌≡◌, ◌≤◌, ◌*◌, ◌++◌, drop}
use Rattle.std.specs.Prelude.{IfSome}
use Rattle.model_shift_figures.specs.Runs.{runs_from, runs_of}
use Rattle.model_shift_figures.specs.declared.run.Run.{Run}
use Rattle.model_shift_figures.proofs.run.runs_of.Given as goal

abbrev pub invariant-loop-lack : goal.invariant-loop-lack
invariant-loop-lack l = record {
  runs : runs_of l.lacks ≡ l.runs ++ runs_from l.live (drop l.lack-index l.lacks);
  small : IfSome l.live (λ (r : Run). r.cost ≤ 1280000 * l.lack-index);
}
