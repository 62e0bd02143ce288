use Rattle.std.proofs.Common.{◌≤◌, length}
use Rattle.bench_runs.proofs.mults.cuts_of.Given as goal

abbrev pub invariant-loop-number : goal.invariant-loop-number
invariant-loop-number l = length l.cuts ≤ l.number
