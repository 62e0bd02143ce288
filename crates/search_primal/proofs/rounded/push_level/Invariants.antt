use Rattle.std.proofs.Common.{ℕ, ◌<◌, All}
use Rattle.search_node_columns.specs.declared.weights.Weight.{Weight}
use Rattle.search_primal.specs.Rounded.{AreFewer}
use Rattle.search_primal.proofs.rounded.push_level.Given as goal

abbrev pub invariant-loop-weight : goal.invariant-loop-weight
invariant-loop-weight l = (n : ℕ) → All (λ (w : Weight). w.column < n) l.weights → AreFewer n l.fn.columns → AreFewer n l.columns
