use Rattle.std.proofs.Common.{arith}
use Rattle.std.proofs.lemmas.Nat.Gcd.{IsGcd-from_mod, IsGcd-from_zero}
use Rattle.lp_fractions.proofs.divisors.gcd_unsigned.Goals as goal

pub steps-preserved : goal.steps-preserved
steps-preserved c = λ g h. c.steps.invariant g (IsGcd-from_mod _ _ g h)

pub returns : goal.returns
returns c = c.steps.invariant _ (IsGcd-from_zero _ _ (omega arith))

pub returns-then-y-le-WORD : goal.returns-then-y-le-WORD
returns-then-y-le-WORD c = c.steps.invariant _ (rw c.from.ensures c.gcd_words.ensures)
