use Rattle.std.proofs.Common.{◌≡◌, ◌<◌, ◌≤◌, ℕ, ◌*ℤ◌}
use Rattle.lp_fractions.specs.Row.{at, new_at}
use Rattle.lp_fractions.proofs.row.divide_all.Given as goal

abbrev pub invariant-loop-j : goal.invariant-loop-j
invariant-loop-j l = record {
  done : (k : ℕ) → k < l.j → l.fn.g *ℤ at l.row k ≡ new_at l.fn.p l.initial.row l.fn.a l.other k;
  rest : (k : ℕ) → l.j ≤ k → at l.row k ≡ at l.initial.row k;
}
