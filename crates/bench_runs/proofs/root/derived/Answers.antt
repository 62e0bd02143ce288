use Rattle.bench_runs.proofs.FillSums.{filled_for_all}
use Rattle.bench_runs.proofs.root.derived.Goals as goal

pub derived_names-requires-clause-filled : goal.derived_names-requires-clause-filled
derived_names-requires-clause-filled c = filled_for_all 0 c.args.grammar.now c.least.new.self c.least.ensures.filled
