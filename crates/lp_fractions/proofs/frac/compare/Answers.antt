use Rattle.std.proofs.Common.{◌≡◌, ◌∙◌, sym, ap, SFits, rules, unsigned_abs, of_z, to_z}
use Rattle.std.specs.Int.{w128, int_div_euclid, int_rem_euclid}
use Rattle.std.proofs.lemmas.Int.{to_z-of_z}
use lib.Signed.{pos-nat_abs}
use Rattle.lp_fractions.proofs.Order.{int_by_quotients, int_by_remainders}
use Rattle.lp_fractions.proofs.frac.compare.Goals as goal

pub returns-then-first-second : goal.returns-then-first-second
returns-then-first-second c =
    let f1 : SFits w128 c.args.a.now.num = search rules in let f2 : SFits w128 c.args.a.now.den = search rules in
    let f3 : SFits w128 c.args.b.now.num = search rules in let f4 : SFits w128 c.args.b.now.den = search rules in
    let f5 : SFits w128 c.div_euclid-first.result = search rules in let f6 : SFits w128 c.div_euclid-second.result = search rules in
    let q1 : c.div_euclid-first.result ≡ int_div_euclid c.args.a.now.num c.args.a.now.den = simp to_z-of_z at c.div_euclid-first.ensures in
    let q2 : c.div_euclid-second.result ≡ int_div_euclid c.args.b.now.num c.args.b.now.den = simp to_z-of_z at c.div_euclid-second.ensures in
    let o = simp to_z-of_z at c.cmp.ensures in
    (rw (q1, q2) at o) ∙ int_by_quotients _ _ _ _ c.args.a.now.sound.positive c.args.b.now.sound.positive (λ e. c.if-first-second.true (ap (of_z w128) (q1 ∙ e ∙ sym q2)))

pub returns : goal.returns
returns c =
    let f1 : SFits w128 c.args.a.now.num = search rules in let f2 : SFits w128 c.args.a.now.den = search rules in
    let f3 : SFits w128 c.args.b.now.num = search rules in let f4 : SFits w128 c.args.b.now.den = search rules in
    let f5 : SFits w128 c.div_euclid-first.result = search rules in let f6 : SFits w128 c.div_euclid-second.result = search rules in
    let f7 : SFits w128 c.rem_euclid.result = search rules in let f8 : SFits w128 c.rem_euclid-2.result = search rules in
    let q1 : c.div_euclid-first.result ≡ int_div_euclid c.args.a.now.num c.args.a.now.den = simp to_z-of_z at c.div_euclid-first.ensures in
    let q2 : c.div_euclid-second.result ≡ int_div_euclid c.args.b.now.num c.args.b.now.den = simp to_z-of_z at c.div_euclid-second.ensures in
    let r1 : c.rem_euclid.result ≡ int_rem_euclid c.args.a.now.num c.args.a.now.den = simp to_z-of_z at c.rem_euclid.ensures.value in
    let r2 : c.rem_euclid-2.result ≡ int_rem_euclid c.args.b.now.num c.args.b.now.den = simp to_z-of_z at c.rem_euclid-2.ensures.value in
    let same : c.div_euclid-first.result ≡ c.div_euclid-second.result = sym (to_z-of_z w128 _ f5) ∙ ap (to_z w128) c.if-first-second.false ∙ to_z-of_z w128 _ f6 in
    let o = simp to_z-of_z at c.compare_unsigned.ensures in
    o ∙ int_by_remainders c.args.a.now.num c.args.b.now.num c.args.a.now.den c.args.b.now.den (unsigned_abs c.rem_euclid.result) (unsigned_abs c.rem_euclid-2.result)
    c.args.a.now.sound.positive c.args.b.now.sound.positive (sym q1 ∙ same ∙ q2)
    (sym r1 ∙ sym (pos-nat_abs _ c.rem_euclid.ensures.lower_bound)) (sym r2 ∙ sym (pos-nat_abs _ c.rem_euclid-2.ensures.lower_bound))
