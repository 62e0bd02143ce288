use Rattle.std.proofs.Common.{◌*◌, ap, arith}
use Rattle.lp_fractions.proofs.floor.doubled.Goals as goal
use Rattle.lp_fractions.proofs.floor.doubled.Goals.{then-left-den, else-left-den}

pub returns-then-left-den-2-clause-value : goal.returns-then-left-den-2-clause-value
returns-then-left-den-2-clause-value c =
    elim c.if-left-den.branch [
      | then-left-den w ↦ omega (arith, ap (λ n. n * c.args.den) w.whole-is)
      | else-left-den w ↦ omega (arith, ap (λ n. n * c.args.den) w.whole-is)
    ]

pub returns-else-left-den-2-clause-value : goal.returns-else-left-den-2-clause-value
returns-else-left-den-2-clause-value c =
    elim c.if-left-den.branch [
      | then-left-den w ↦ omega (arith, ap (λ n. n * c.args.den) w.whole-is)
      | else-left-den w ↦ omega (arith, ap (λ n. n * c.args.den) w.whole-is)
    ]
