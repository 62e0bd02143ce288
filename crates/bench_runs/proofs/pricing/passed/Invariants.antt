use Rattle.tree_cheapest.specs.Pricers.{IsMadeFor}
use Rattle.bench_runs.proofs.pricing.passed.Given as goal

abbrev pub invariant-loop-fill : goal.invariant-loop-fill
invariant-loop-fill l = IsMadeFor l.graph l.pricer
