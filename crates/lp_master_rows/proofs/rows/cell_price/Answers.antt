use Rattle.std.proofs.Common.{◌≤◌, ℤ, pos, get_or, arith, ◌+ℤ◌, ◌^◌, unsigned_abs, to_z-of_z, SFits, rules, refl}
use Rattle.std.specs.Int.{w128}
use Rattle.std.proofs.lemmas.Int.{ints}
use Rattle.lp_master_rows.proofs.rows.cell_price.Goals as goal

small : (x y z : ℤ) → unsigned_abs x ≤ 2 ^ 56 → unsigned_abs y ≤ 2 ^ 56 → unsigned_abs z ≤ 2 ^ 56 → SFits w128 (x +ℤ y) × SFits w128 (x +ℤ y +ℤ z)
small x y z a b c = (omega (arith, ints), omega (arith, ints))

pub returns : goal.returns
returns c =
    let fy : SFits w128 (get_or c.args.y.now c.args.cell (pos 0)) = search rules in
    let fa : SFits w128 c.price_in.result = search rules in
    let fb : SFits w128 c.price_in-2.result = search rules in
    let s = small (get_or c.args.y.now c.args.cell (pos 0)) c.price_in.result c.price_in-2.result (c.requires.y c.args.cell (pos 0) c.requires.cell) c.price_in.ensures.within c.price_in-2.ensures.within in
    let first : SFits w128 (get_or c.args.y.now c.args.cell (pos 0) +ℤ c.price_in.result) = s.0 in
    let second : SFits w128 (get_or c.args.y.now c.args.cell (pos 0) +ℤ c.price_in.result +ℤ c.price_in-2.result) = s.1 in
    simp to_z-of_z (rw (c.price_in.ensures.value, c.price_in-2.ensures.value) refl)
