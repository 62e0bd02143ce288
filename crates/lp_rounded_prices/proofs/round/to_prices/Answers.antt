use Rattle.std.proofs.Common.{◌≡◌, ◌≤◌, ◌+◌, ◌-◌, ℤ, ℕ, List, ◌++◌, length, take, drop, to_z-of_z, arith, ◌∙◌, length-take-le, length-drop, take_all}
use Rattle.std.proofs.lemmas.Result.{err_from_is_err_and}
use Rattle.law_bounds.specs.master_laws.Rounding.{AreFloors, IsDenominator}
use Rattle.lp_rounded_prices.specs.Floors.{AreMultsOf}
use Rattle.lp_rounded_prices.proofs.Multipliers.{floors_length}
use Rattle.lp_rounded_prices.proofs.RoundFaults.{cell_fault, cut_fault}
use Rattle.lp_rounded_prices.proofs.round.to_prices.Goals as goal

-- the slice of the cuts' numbers is all that is left
rest : (k : ℕ) (ys : List ℤ) → take (length ys - k) (drop k ys) ≡ drop k ys
rest k ys = take_all (length ys - k) (drop k ys) (omega (arith, length-drop k ys))

pub returns-in_err-cell-clause-wide : goal.returns-in_err-cell-clause-wide
returns-in_err-cell-clause-wide c =
    let fk = c.ranges.kappa in
    let is : IsDenominator c.args.kappa (take c.args.cells c.args.y.now ++ drop (c.args.cells + 2) c.args.y.now) c.denominator-d.result = simp (to_z-of_z, rest) at c.denominator-d.ensures.value in
    let h = simp to_z-of_z at c.in_err-cell.ensures.wide in
    let p = err_from_is_err_and c.from_residual.result c.from_residual.ensures.1 in
    rw (p.1, p.2) (cell_fault c.args.kappa c.denominator-d.result c.args.tally.now c.floors.new.tally (take c.args.cells c.args.y.now) c.args.cuts.now (drop (c.args.cells + 2) c.args.y.now) is _ h)

pub returns-in_err-mult-clause-wide : goal.returns-in_err-mult-clause-wide
returns-in_err-mult-clause-wide c =
    let fk = c.ranges.kappa in
    let is : IsDenominator c.args.kappa (take c.args.cells c.args.y.now ++ drop (c.args.cells + 2) c.args.y.now) c.denominator-d.result = simp (to_z-of_z, rest) at c.denominator-d.ensures.value in
    let h = simp (to_z-of_z, rest) at c.in_err-mult.ensures.wide in
    let p = err_from_is_err_and c.from_residual-in_err-mult.result c.from_residual-in_err-mult.ensures.1 in
    rw (p.1, p.2) (cut_fault c.args.kappa c.denominator-d.result c.args.tally.now c.multipliers.new.tally (take c.args.cells c.args.y.now) c.args.cuts.now (drop (c.args.cells + 2) c.args.y.now) is _
    (rw c.in_ok-cell.ensures.kept at h))

pub returns-clause-rounded : goal.returns-clause-rounded
returns-clause-rounded c =
    let fk = c.ranges.kappa in
    let is : IsDenominator c.args.kappa (take c.args.cells c.args.y.now ++ drop (c.args.cells + 2) c.args.y.now) c.denominator-d.result = simp (to_z-of_z, rest) at c.denominator-d.ensures.value in
    let f = simp to_z-of_z at c.in_ok-cell.ensures.floors in
    let m : AreMultsOf c.args.kappa c.denominator-d.result c.args.cuts.now (drop (c.args.cells + 2) c.args.y.now) c.in_ok-mult.mult = simp (to_z-of_z, rest) at c.in_ok-mult.ensures.mults in
    record { denominator = is; cell = f; mult = m.floors }

pub returns-clause-cells : goal.returns-clause-cells
returns-clause-cells c =
    let fk = c.ranges.kappa in
    let f : AreFloors c.args.kappa c.denominator-d.result (take c.args.cells c.args.y.now) c.in_ok-cell.cell = simp to_z-of_z at c.in_ok-cell.ensures.floors in
    let l : c.args.cells ≤ length c.args.y.now = omega arith in
    (floors_length c.args.kappa c.denominator-d.result (take c.args.cells c.args.y.now) c.in_ok-cell.cell f ∙ length-take-le c.args.cells c.args.y.now l, c.in_ok-cell.ensures.within)
