use Rattle.std.proofs.Common.{◌≡◌, ◌++◌}
use Rattle.search_candidates.specs.Leaders.{numbers_like}
use Rattle.search_candidates.proofs.leaders.push_copies.Given as goal

abbrev pub invariant-loop : goal.invariant-loop
invariant-loop l = l.columns ≡ l.fn.columns ++ numbers_like l.counter l.column
