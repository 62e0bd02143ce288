use Rattle.std.proofs.Common.{◌≡◌, ℕ, ◌<◌, ◌+◌, Some}
use Rattle.std.specs.Prelude.{slice_get}
use Rattle.model_rosters.specs.declared.instance.Cell.{Cell}
use Rattle.model_rosters.specs.Demands.{IsCellOf}
use Rattle.model_rosters.proofs.demands.are_of.Given as goal

abbrev pub invariant-loop-place : goal.invariant-loop-place
invariant-loop-place l = (k : ℕ) (c : Cell) → k < l.place → slice_get l.cells k ≡ Some c → IsCellOf l.first.code l.first.under l.first.over (k + 1) c
