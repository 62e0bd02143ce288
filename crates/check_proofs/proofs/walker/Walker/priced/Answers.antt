use Rattle.std.proofs.Common.{arith}
use Rattle.model_rosters.proofs.Mults.{nonzero-all}
use Rattle.check_proofs.proofs.walker.Walker.priced.Goals as goal

pub priced_value-requires-clause-few : goal.priced_value-requires-clause-few
priced_value-requires-clause-few c =
    let all = nonzero-all c.args.prices.now.mult.now c.requires.listed in
    omega (arith, all, c.requires.fit.few, c.requires.walker.rooms.most)
