use Rattle.std.proofs.Common.{unsigned_abs, arith}
use Rattle.std.specs.Int.{IsGcd}
use Rattle.std.proofs.lemmas.Int.{to_z-of_z}
use Rattle.std.proofs.lemmas.Nat.Gcd.{IsGcd-swap}
use Rattle.lp_fractions.proofs.Gcds.{gcd_below}
use Rattle.lp_fractions.proofs.pivot_rows.step.next_factor.Goals as goal

pub returns-else-number-eq0-clause-value : goal.returns-else-number-eq0-clause-value
returns-else-number-eq0-clause-value c =
    let f = c.ranges.number in
    IsGcd-swap (unsigned_abs c.args.number) c.args.common c.gcd_unsigned.result (simp (c.unsigned_abs.ensures.value, to_z-of_z) at c.gcd_unsigned.ensures)

pub returns-else-number-eq0-clause-size : goal.returns-else-number-eq0-clause-size
returns-else-number-eq0-clause-size c =
    let f = c.ranges.number in
    let g : IsGcd (unsigned_abs c.args.number) c.args.common c.gcd_unsigned.result = simp (c.unsigned_abs.ensures.value, to_z-of_z) at c.gcd_unsigned.ensures in
    let q = c.requires in
    let b = gcd_below _ _ _ 42535295865117307932921825928971026433 (omega arith) (omega arith) g in omega arith
