use Rattle.tree_cheapest.specs.Pricers.{IsMadeFor}
use Rattle.bench_runs.proofs.root.solve_again.Given as goal

-- the pricer is still one made for the graph
abbrev pub invariant-loop : goal.invariant-loop
invariant-loop l = IsMadeFor l.graph l.pricer
