use Rattle.std.proofs.Common.{◌+◌, ◌-◌, ◌*◌, arith}
use Rattle.std.proofs.lemmas.Nat.{div_below}
use Rattle.model_shift_figures.proofs.bound.share_of.Goals as goal

pub returns-clause-small : goal.returns-clause-small
returns-clause-small c =
    let below = div_below (c.args.amount * 1000 + (c.args.cost - 1)) c.args.cost 1001 (omega (arith, c.requires)) (omega (arith, c.requires)) in
    omega (arith, below)
