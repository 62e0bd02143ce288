use Rattle.std.proofs.Common.{arith}
use Rattle.std.proofs.lemmas.Nat.Bits.{bit_at_or, bit_at-lt}
use Rattle.model_rosters.proofs.unit_rules.extended.Goals as goal

pub returns-then-contains : goal.returns-then-contains
returns-then-contains c = λ y.
    omega (arith, bit_at_or c.args.set c.args.from_pivot y, bit_at-lt c.args.from_pivot y, c.contains.ensures.0 c.if-contains.true)
