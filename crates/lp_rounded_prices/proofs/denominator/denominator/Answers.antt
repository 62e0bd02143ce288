use Rattle.std.proofs.Common.{inr, refl, to_z-of_z}
use Rattle.law_bounds.specs.master_laws.Rounding.{IsLeastWhole}
use Rattle.lp_rounded_prices.specs.Denominators.{AreAllPast}
use Rattle.lp_rounded_prices.proofs.denominator.denominator.Goals as goal

pub returns-in-None-clause-value : goal.returns-in-None-clause-value
returns-in-None-clause-value c =
    let fk = c.ranges.kappa in
    let past : AreAllPast c.args.kappa _ = simp to_z-of_z at c.in-None.ensures.none in
    inr (λ e (h : IsLeastWhole c.args.kappa _ e). past e h.some h.whole, refl)
