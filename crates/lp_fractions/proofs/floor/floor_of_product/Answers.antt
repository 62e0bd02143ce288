use Rattle.std.proofs.Common.{◌≡◌, ◌+◌, ◌*◌, ◌<◌, SFits, rules, unsigned_abs}
use Rattle.std.specs.Int.{w128, int_div_euclid, int_rem_euclid}
use Rattle.std.proofs.lemmas.Int.{to_z-of_z}
use Rattle.lp_fractions.proofs.Floors.{floor_from_parts}
use Rattle.lp_fractions.proofs.floor.floor_of_product.Goals as goal

pub returns : goal.returns
returns c =
    let fn = c.ranges.num in let fd = c.ranges.den in
    let fq : SFits w128 c.div_euclid-quotient.result = search rules in
    let fr : SFits w128 c.rem_euclid-rest.result = search rules in
    let quotient : c.div_euclid-quotient.result ≡ int_div_euclid c.args.num c.args.den = simp to_z-of_z at c.div_euclid-quotient.ensures in
    let rest : c.rem_euclid-rest.result ≡ int_rem_euclid c.args.num c.args.den = simp to_z-of_z at c.rem_euclid-rest.ensures.value in
    let value : c.divided_product-part.result.0 * unsigned_abs c.args.den + c.divided_product-part.result.1 ≡ unsigned_abs (int_rem_euclid c.args.num c.args.den) * c.args.d = rw rest at (simp to_z-of_z at c.divided_product-part.ensures.value) in
    let left : c.divided_product-part.result.1 < unsigned_abs c.args.den = simp to_z-of_z at c.divided_product-part.ensures.rest in
    let floor = floor_from_parts c.args.num c.args.den c.args.d c.divided_product-part.result.0 c.divided_product-part.result.1 c.requires.den value left in
    rw (floor, ← quotient) (simp to_z-of_z at c.total.ensures)
