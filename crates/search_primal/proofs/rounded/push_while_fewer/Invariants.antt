use Rattle.std.proofs.Common.{ℕ, ◌<◌}
use Rattle.search_primal.specs.Rounded.{AreFewer}
use Rattle.search_primal.proofs.rounded.push_while_fewer.Given as goal

abbrev pub invariant-loop : goal.invariant-loop
invariant-loop l = (n : ℕ) → l.column < n → AreFewer n l.fn.columns → AreFewer n l.columns
