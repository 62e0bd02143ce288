use Rattle.std.proofs.Common.{◌≡◌, ◌<◌, ◌*◌, ◌+◌}
use Rattle.std.specs.Ordering.{nat_cmp}
use Rattle.lp_fractions.proofs.frac.compare_unsigned.Given as goal

abbrev pub invariant-turns : goal.invariant-turns
invariant-turns l = record {
  b : 0 < l.b;
  d : 0 < l.d;
  same : nat_cmp (l.a * l.d) (l.c * l.b) ≡ nat_cmp (l.fn.a * l.fn.d) (l.fn.c * l.fn.b);
}

abbrev pub decreases-turns : goal.decreases-turns
decreases-turns l = l.b + l.d
