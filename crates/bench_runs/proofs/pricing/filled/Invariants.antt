use Rattle.tree_span_table.specs.Tables.{IsMadeFor}
use Rattle.bench_runs.proofs.pricing.filled.Given as goal

abbrev pub invariant-loop-fill : goal.invariant-loop-fill
invariant-loop-fill l = IsMadeFor l.grammar l.table
