use Rattle.std.proofs.Common.{◌≡◌, pos, ◌+ℤ◌, ◌-ℤ◌, ◌*ℤ◌, ◌<ℤ◌, ◌≤ℤ◌, SFits, arith, rules}
use Rattle.std.specs.Int.{w128}
use Rattle.std.proofs.lemmas.Int.{ints, to_z-of_z}
use Rattle.lp_fractions.proofs.Floors.{lower_fits, upper_fits, upper_is, SomeIff-none}
use Rattle.lp_fractions.proofs.floor.total.Goals as goal

pub returns-in_err-upper : goal.returns-in_err-upper
returns-in_err-upper c =
    let fq = c.ranges.quotient in
    let negative : c.args.quotient <ℤ pos 0 = omega (arith, ints) in
    let f1 : SFits w128 (c.args.quotient +ℤ pos 1) = omega (arith, ints) in
    let f2 : SFits w128 c.from.result = search rules in
    let wide : SFits w128 ((c.args.quotient +ℤ pos 1) *ℤ pos c.args.d) → _ = rw c.from.ensures at (simp to_z-of_z at c.in_err-upper.ensures) in
    SomeIff-none _ _ _ (search rules) (λ f. wide (upper_fits c.args.quotient c.args.d c.args.part negative c.requires f))

pub returns-in_err-lower : goal.returns-in_err-lower
returns-in_err-lower c =
    let fq = c.ranges.quotient in
    let positive : pos 0 ≤ℤ c.args.quotient = omega (arith, ints) in
    let f2 : SFits w128 c.from-else-quotient-lt0.result = search rules in
    let wide : SFits w128 (c.args.quotient *ℤ pos c.args.d) → _ = rw c.from-else-quotient-lt0.ensures at (simp to_z-of_z at c.in_err-lower.ensures) in
    SomeIff-none _ _ _ (search rules) (λ f. wide (lower_fits c.args.quotient c.args.d c.args.part positive f))

pub returns-in_ok-upper : goal.returns-in_ok-upper
returns-in_ok-upper c =
    let fq = c.ranges.quotient in
    let f1 : SFits w128 (c.args.quotient +ℤ pos 1) = omega (arith, ints) in
    let f2 : SFits w128 c.from.result = search rules in
    let f3 : SFits w128 c.in_ok-upper.upper = search rules in
    let f4 : SFits w128 c.from-then-quotient-lt0.result = search rules in
    let upper = rw c.from.ensures at (simp to_z-of_z at c.in_ok-upper.ensures) in
    let e : c.in_ok-upper.upper -ℤ c.from-then-quotient-lt0.result ≡ c.args.quotient *ℤ pos c.args.d +ℤ pos c.args.part = rw (upper.1, c.from-then-quotient-lt0.ensures) (upper_is c.args.quotient c.args.d c.args.part c.requires) in
    rw e at (simp to_z-of_z at c.checked_sub.ensures)

pub returns-in_ok-lower : goal.returns-in_ok-lower
returns-in_ok-lower c =
    let fq = c.ranges.quotient in
    let f2 : SFits w128 c.from-else-quotient-lt0.result = search rules in
    let f3 : SFits w128 c.in_ok-lower.lower = search rules in
    let f4 : SFits w128 c.from-else-quotient-lt0-2.result = search rules in
    let lower = rw c.from-else-quotient-lt0.ensures at (simp to_z-of_z at c.in_ok-lower.ensures) in
    rw (lower.1, c.from-else-quotient-lt0-2.ensures) at (simp to_z-of_z at c.checked_add.ensures)
