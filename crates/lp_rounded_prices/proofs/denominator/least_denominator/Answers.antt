use Rattle.std.proofs.Common.{ℕ, ℤ, to_z-of_z, Option, Some, None, IfSome, List, [], ◌++◌}
use Rattle.law_bounds.specs.master_laws.Rounding.{IsLeastWhole}
use Rattle.lp_rounded_prices.specs.Denominators.{IsLeastFor, AreAllPast}
use Rattle.lp_rounded_prices.proofs.Steps.{first, whole, still_past}
use Rattle.lp_rounded_prices.proofs.denominator.least_denominator.Goals as goal

pub returns-in_err-d-clause-none : goal.returns-in_err-d-clause-none
returns-in_err-d-clause-none c =
    let fk = c.ranges.kappa in
    let past : AreAllPast c.args.kappa c.args.first.now = simp to_z-of_z at (c.in_err-d.ensures.none [] (first _)) in
    rw c.from_residual.ensures (still_past _ _ _ past)

of_some : (kappa : ℤ) (xs : List ℤ) (o : Option ℕ) → IfSome o (IsLeastFor kappa xs) → IfSome o (IsLeastWhole kappa xs)
of_some kappa xs None h = h
of_some kappa xs (Some d) h = whole kappa xs d h

begun : (c : goal.After-with_numbers-2) → IsLeastFor c.args.kappa c.args.first.now c.in_ok-d.d
begun c = let fk = c.ranges.kappa in simp to_z-of_z at (c.in_ok-d.ensures.least [] (first _))

pub returns-clause-least : goal.returns-clause-least
returns-clause-least c =
    let fk = c.ranges.kappa in
    let h : IfSome c.with_numbers-2.result (IsLeastFor c.args.kappa (c.args.first.now ++ c.args.second.now)) = (simp to_z-of_z at c.with_numbers-2.ensures.least) c.args.first.now (begun c) in
    of_some c.args.kappa _ c.with_numbers-2.result h

pub returns-clause-none : goal.returns-clause-none
returns-clause-none c =
    let fk = c.ranges.kappa in
    (simp to_z-of_z at c.with_numbers-2.ensures.none) c.args.first.now (begun c)
