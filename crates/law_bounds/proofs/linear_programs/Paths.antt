-- Each tableau of a pivot path is tied to its program.
use Rattle.std.proofs.Common.{ℕ}
use Rattle.law_bounds.specs.linear_programs.Program.{Program, IsSound}
use Rattle.law_bounds.specs.linear_programs.Tableau.{Tableau, PivotPath, start, step}
use Rattle.law_bounds.proofs.linear_programs.TiedTableau.{IsTied}
use Rattle.law_bounds.proofs.linear_programs.Start.{start_tied}
use Rattle.law_bounds.proofs.linear_programs.Pivot.{step_keeps}

pub path_tied : {K : Type 0} (p : Program K) (sound : IsSound p) (n : ℕ) (t : Tableau K) → PivotPath p n t → IsTied p t
path_tied p sound _ _ (start t s) = start_tied p t sound s
path_tied p sound _ _ (step m old new k r path member s) = step_keeps p (path_tied p sound m old path) member s
