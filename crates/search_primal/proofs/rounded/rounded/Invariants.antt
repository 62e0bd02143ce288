use Rattle.std.proofs.Common.{ℕ, ◌<◌, All}
use Rattle.search_node_columns.specs.declared.weights.Weight.{Weight}
use Rattle.search_primal.specs.Rounded.{AreFewer}
use Rattle.search_primal.proofs.rounded.rounded.Given as goal

abbrev pub invariant-loop-step : goal.invariant-loop-step
invariant-loop-step l = (n : ℕ) → All (λ (w : Weight). w.column < n) l.weights → AreFewer n l.columns
