use Rattle.tree_cheapest.specs.Pricers.{IsMadeFor}
use Rattle.bench_runs.proofs.mults.passed.Given as goal

abbrev pub invariant-loop : goal.invariant-loop
invariant-loop l = IsMadeFor l.graph l.pricer
