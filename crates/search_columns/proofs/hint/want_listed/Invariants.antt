use Rattle.std.proofs.Common.{◌<◌, ℕ, All}
use Rattle.search_columns.proofs.hint.want_listed.Given as goal

abbrev pub invariant-loop-column : goal.invariant-loop-column
invariant-loop-column l = All (λ (j : ℕ). j < l.count) l.wanted
