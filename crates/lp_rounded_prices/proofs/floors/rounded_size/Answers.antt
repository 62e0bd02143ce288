use Rattle.std.proofs.Common.{pos, to_z-of_z, refl, SFits, rules, arith, neg_ℤ, ◌+ℤ◌, ◌-ℤ◌, ◌≤ℤ◌, ◌^◌, ◌≡◌, unsigned_abs}
use Rattle.std.specs.Int.{w128}
use Rattle.std.proofs.lemmas.Int.{ints}
use Rattle.lp_fractions.specs.Scaled.{scaled_floor}
use Rattle.lp_rounded_prices.proofs.FloorsLemmas.{size_is, size_nonneg, size_most, size_wide}
use Rattle.lp_rounded_prices.proofs.floors.rounded_size.Goals as goal

-- what is known of the floor
known : (c : goal.In-Ok) → (pos (unsigned_abs (scaled_floor c.size_less.result c.args.kappa c.args.d)) ≤ℤ (pos (2 ^ 80) -ℤ pos c.args.d))
    × (c.in-Ok.floor ≡ scaled_floor c.size_less.result c.args.kappa c.args.d)
known c =
    let fn = c.ranges.number in
    let fk = c.ranges.kappa in
    let fy : SFits w128 c.size_less.result = search rules in
    let e = c.from-whole.ensures in
    let fw : SFits w128 c.from-whole.result = omega (arith, ints) in
    let fm : SFits w128 (pos (2 ^ 80) -ℤ c.from-whole.result) = omega (arith, ints) in
    let v = simp to_z-of_z at c.in-Ok.ensures.value in
    rw e at v

less : (c : goal.In-Ok) → c.size_less.result ≡ neg_ℤ (c.args.number +ℤ c.args.kappa)
less c = let fn = c.ranges.number in let fk = c.ranges.kappa in simp to_z-of_z at c.size_less.ensures

nonneg : (c : goal.In-Ok) → pos 0 ≤ℤ (scaled_floor c.size_less.result c.args.kappa c.args.d +ℤ pos c.args.d)
nonneg c = size_nonneg c.args.kappa c.args.number c.size_less.result c.args.d c.requires.kappa (less c) c.requires.number

most : (c : goal.In-Ok) → (scaled_floor c.size_less.result c.args.kappa c.args.d +ℤ pos c.args.d) ≤ℤ pos (2 ^ 80)
most c = size_most c.args.kappa c.args.number c.size_less.result c.args.d c.requires.kappa (less c) (known c).0

sum : (c : goal.In-Ok) → c.in-Ok.floor +ℤ c.from-whole.result ≡ scaled_floor c.size_less.result c.args.kappa c.args.d +ℤ pos c.args.d
sum c = rw ((known c).1, c.from-whole.ensures) refl

fits : (c : goal.In-Ok) → SFits w128 (c.in-Ok.floor +ℤ c.from-whole.result)
fits c = let s = sum c in let n = nonneg c in let m = most c in omega (arith, ints)

pub returns-in-Ok-clause-floor : goal.returns-in-Ok-clause-floor
returns-in-Ok-clause-floor c =
    let ff : SFits w128 c.in-Ok.floor = search rules in
    let fw : SFits w128 c.from-whole.result = search rules in
    let fs = fits c in
    simp to_z-of_z (rw (sum c) (size_is c.args.kappa c.args.number c.size_less.result c.args.d c.requires.kappa (less c)))

pub returns-in-Ok-clause-within : goal.returns-in-Ok-clause-within
returns-in-Ok-clause-within c =
    let ff : SFits w128 c.in-Ok.floor = search rules in
    let fw : SFits w128 c.from-whole.result = search rules in
    let fs = fits c in
    simp to_z-of_z (rw (sum c) (nonneg c, most c))

pub returns-in-Err-clause-wide : goal.returns-in-Err-clause-wide
returns-in-Err-clause-wide c =
    let fn = c.ranges.number in
    let fk = c.ranges.kappa in
    let fy : SFits w128 c.size_less.result = search rules in
    let e = c.from-whole.ensures in
    let fw : SFits w128 c.from-whole.result = omega (arith, ints) in
    let fm : SFits w128 (pos (2 ^ 80) -ℤ c.from-whole.result) = omega (arith, ints) in
    let l : c.size_less.result ≡ neg_ℤ (c.args.number +ℤ c.args.kappa) = simp to_z-of_z at c.size_less.ensures in
    let v = simp to_z-of_z at c.in-Err.ensures.value in
    let w = simp to_z-of_z at c.wide_size.ensures in
    rw w (
      c.in-Err.ensures.counted,
      size_wide c.args.kappa c.args.number c.size_less.result c.args.d c.requires.kappa l _ c.requires.number c.requires.d.1 (rw e at v) refl,
    )
