use Rattle.std.proofs.Common.{◌≡◌, unsigned_abs, arith, subst}
use Rattle.std.specs.Int.{IsGcd}
use Rattle.std.proofs.lemmas.Int.{to_z-of_z}
use Rattle.std.proofs.lemmas.Nat.Gcd.{IsGcd-swap}
use Rattle.lp_fractions.proofs.Gcds.{gcd_below, IsGcd-one}
use Rattle.lp_fractions.proofs.row.next_factor.Goals as goal

pub returns-then-factor-eq1-clause-value : goal.returns-then-factor-eq1-clause-value
returns-then-factor-eq1-clause-value c =
    let e : 1 ≡ c.args.factor = omega arith in subst (λ n. IsGcd n (unsigned_abs c.args.entry) 1) e (IsGcd-one (unsigned_abs c.args.entry))

pub returns-else-factor-eq1-clause-value : goal.returns-else-factor-eq1-clause-value
returns-else-factor-eq1-clause-value c =
    let f = c.ranges.entry in
    IsGcd-swap (unsigned_abs c.args.entry) c.args.factor c.gcd_unsigned.result (simp (c.unsigned_abs.ensures.value, to_z-of_z) at c.gcd_unsigned.ensures)

pub returns-else-factor-eq1-clause-bound : goal.returns-else-factor-eq1-clause-bound
returns-else-factor-eq1-clause-bound c =
    let f = c.ranges.entry in
    let g : IsGcd c.args.factor (unsigned_abs c.args.entry) c.gcd_unsigned.result =
    IsGcd-swap (unsigned_abs c.args.entry) c.args.factor c.gcd_unsigned.result (simp (c.unsigned_abs.ensures.value, to_z-of_z) at c.gcd_unsigned.ensures) in
    gcd_below _ _ _ _ c.requires.factor c.requires.entry g
