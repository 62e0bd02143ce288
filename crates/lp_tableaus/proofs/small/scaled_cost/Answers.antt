use Rattle.std.proofs.Common.{◌^◌, arith, ◌*ℤ◌, SFits, rules, refl}
use Rattle.std.specs.Int.{w64, w128}
use Rattle.std.proofs.lemmas.Int.{to_z-of_z, fits_signed_mul, ints}
use Rattle.lp_tableaus.proofs.Places.{product_range}
use Rattle.lp_tableaus.proofs.small.scaled_cost.Goals as goal

pub overflow_mul-result : goal.overflow_mul-result
overflow_mul-result c =
    let k : SFits w64 c.args.kappa = c.ranges.kappa in
    let o : SFits w64 c.args.cost = c.ranges.cost in
    let f1 : SFits w128 c.from.result = search rules in
    let f2 : SFits w128 c.from-2.result = search rules in
    let first = simp to_z-of_z at c.from.ensures in
    let second = simp to_z-of_z at c.from-2.ensures in
    simp to_z-of_z (rw (first, second) (fits_signed_mul w128 c.args.kappa c.args.cost (2 ^ 56) (2 ^ 39) c.requires.size (omega (arith, ints, c.requires.low, c.requires.high)) (omega arith)))

pub returns-clause-value : goal.returns-clause-value
returns-clause-value c =
    let k : SFits w64 c.args.kappa = c.ranges.kappa in
    let o : SFits w64 c.args.cost = c.ranges.cost in
    let f1 : SFits w128 c.from.result = search rules in
    let f2 : SFits w128 c.from-2.result = search rules in
    let first = simp to_z-of_z at c.from.ensures in
    let second = simp to_z-of_z at c.from-2.ensures in
    let f : SFits w128 (c.from.result *ℤ c.from-2.result) = rw (first, second) (fits_signed_mul w128 c.args.kappa c.args.cost (2 ^ 56) (2 ^ 39) c.requires.size (omega (arith, ints, c.requires.low, c.requires.high)) (omega arith)) in
    simp to_z-of_z (rw (first, second) refl)

pub returns-clause-low : goal.returns-clause-low
returns-clause-low c =
    let k : SFits w64 c.args.kappa = c.ranges.kappa in
    let o : SFits w64 c.args.cost = c.ranges.cost in
    let f1 : SFits w128 c.from.result = search rules in
    let f2 : SFits w128 c.from-2.result = search rules in
    let first = simp to_z-of_z at c.from.ensures in
    let second = simp to_z-of_z at c.from-2.ensures in
    let f : SFits w128 (c.from.result *ℤ c.from-2.result) = rw (first, second) (fits_signed_mul w128 c.args.kappa c.args.cost (2 ^ 56) (2 ^ 39) c.requires.size (omega (arith, ints, c.requires.low, c.requires.high)) (omega arith)) in
    simp to_z-of_z (rw (first, second) (product_range c.args.kappa c.args.cost (2 ^ 56) (2 ^ 39) c.requires.kappa c.requires.size c.requires.low c.requires.high).0)

pub returns-clause-high : goal.returns-clause-high
returns-clause-high c =
    let k : SFits w64 c.args.kappa = c.ranges.kappa in
    let o : SFits w64 c.args.cost = c.ranges.cost in
    let f1 : SFits w128 c.from.result = search rules in
    let f2 : SFits w128 c.from-2.result = search rules in
    let first = simp to_z-of_z at c.from.ensures in
    let second = simp to_z-of_z at c.from-2.ensures in
    let f : SFits w128 (c.from.result *ℤ c.from-2.result) = rw (first, second) (fits_signed_mul w128 c.args.kappa c.args.cost (2 ^ 56) (2 ^ 39) c.requires.size (omega (arith, ints, c.requires.low, c.requires.high)) (omega arith)) in
    simp to_z-of_z (rw (first, second) (product_range c.args.kappa c.args.cost (2 ^ 56) (2 ^ 39) c.requires.kappa c.requires.size c.requires.low c.requires.high).1)
