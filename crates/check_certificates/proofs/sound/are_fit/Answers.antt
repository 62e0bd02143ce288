use Rattle.std.proofs.Common.{refl}
use Rattle.check_certificates.proofs.WalksLemmas.{fit}
use Rattle.check_certificates.proofs.sound.are_fit.Goals as goal

pub returns-then-are_prices : goal.returns-then-are_prices
returns-then-are_prices c path same =
    let both = fit c.args.instance.now c.args.prices.now.d c.args.prices.now.cell c.args.prices.now.mult c.args.cuts path same in
    (λ t. both.0 (c.if-are_prices.ensures.0 refl, c.are_mults.ensures.0 t), λ h. c.are_mults.ensures.1 (both.1 h).1)
