use Rattle.std.proofs.Common.{◌≡◌, ℤ, ◌*ℤ◌, SFits, rules, ◌∙◌, ap}
use Rattle.std.specs.Int.{w128}
use Rattle.std.proofs.lemmas.Int.{to_z-of_z}
use Rattle.lp_fractions.specs.Fraction.{IsFraction}
use Rattle.lp_fractions.proofs.CommonForms.{IfNone-any}
use Rattle.lp_fractions.proofs.Products.{product_ratio, product_sound, product_only}
use Rattle.lp_fractions.proofs.multiplication.product_of.Goals as goal

pub from_reduced-requires : goal.from_reduced-requires
from_reduced-requires c =
    let f1 : SFits w128 c.num.result = search rules in let f2 : SFits w128 c.den.result = search rules in
    let f3 : SFits w128 c.num-2.result = search rules in let f4 : SFits w128 c.den-2.result = search rules in
    let f5 : SFits w128 c.in_ok-num.num = search rules in let f6 : SFits w128 c.in_ok-num.den = search rules in
    let l = c.new-left.result in let r = c.new-right.result in
    let a = c.args.a.now in let b = c.args.b.now in
    let le : l.num *ℤ b.den ≡ a.num *ℤ l.den = rw (c.num.ensures, c.den.ensures.value) at (simp to_z-of_z at c.new-left.ensures) in
    let re : r.num *ℤ a.den ≡ b.num *ℤ r.den = rw (c.num-2.ensures, c.den-2.ensures.value) at (simp to_z-of_z at c.new-right.ensures) in
    let e = c.in_ok-num.ensures in
    let s = product_sound a.num a.den b.num b.den l.num l.den r.num r.den a.sound b.sound l.sound r.sound le re e.0.0 e.0.1 in
    let en : c.in_ok-num.num ≡ l.num *ℤ r.num = ap (λ (t : ℤ × ℤ). t.0) e.1 in
    let ed : c.in_ok-num.den ≡ l.den *ℤ r.den = ap (λ (t : ℤ × ℤ). t.1) e.1 in
    simp to_z-of_z (rw (en, ed) s)

pub returns-clause-some : goal.returns-clause-some
returns-clause-some c =
    let f1 : SFits w128 c.num.result = search rules in let f2 : SFits w128 c.den.result = search rules in
    let f3 : SFits w128 c.num-2.result = search rules in let f4 : SFits w128 c.den-2.result = search rules in
    let f5 : SFits w128 c.in_ok-num.num = search rules in let f6 : SFits w128 c.in_ok-num.den = search rules in
    let l = c.new-left.result in let r = c.new-right.result in
    let a = c.args.a.now in let b = c.args.b.now in
    let le : l.num *ℤ b.den ≡ a.num *ℤ l.den = rw (c.num.ensures, c.den.ensures.value) at (simp to_z-of_z at c.new-left.ensures) in
    let re : r.num *ℤ a.den ≡ b.num *ℤ r.den = rw (c.num-2.ensures, c.den-2.ensures.value) at (simp to_z-of_z at c.new-right.ensures) in
    let e = c.in_ok-num.ensures in
    let en : c.from_reduced.result.num ≡ l.num *ℤ r.num = c.from_reduced.ensures.num ∙ to_z-of_z w128 _ f5 ∙ ap (λ (t : ℤ × ℤ). t.0) e.1 in
    let ed : c.from_reduced.result.den ≡ l.den *ℤ r.den = c.from_reduced.ensures.den ∙ to_z-of_z w128 _ f6 ∙ ap (λ (t : ℤ × ℤ). t.1) e.1 in
    rw (en, ed) (product_ratio a.num a.den b.num b.den l.num l.den r.num r.den a.sound b.sound l.sound r.sound le re)

pub returns-in_err-num-clause-none : goal.returns-in_err-num-clause-none
returns-in_err-num-clause-none c =
    let f1 : SFits w128 c.num.result = search rules in let f2 : SFits w128 c.den.result = search rules in
    let f3 : SFits w128 c.num-2.result = search rules in let f4 : SFits w128 c.den-2.result = search rules in
    let l = c.new-left.result in let r = c.new-right.result in
    let a = c.args.a.now in let b = c.args.b.now in
    let le : l.num *ℤ b.den ≡ a.num *ℤ l.den = rw (c.num.ensures, c.den.ensures.value) at (simp to_z-of_z at c.new-left.ensures) in
    let re : r.num *ℤ a.den ≡ b.num *ℤ r.den = rw (c.num-2.ensures, c.den-2.ensures.value) at (simp to_z-of_z at c.new-right.ensures) in
    let none : (x y : ℤ) → IsFraction x y → x *ℤ (a.den *ℤ b.den) ≡ (a.num *ℤ b.num) *ℤ y → ⊥ = λ x y h q. c.in_err-num.ensures (product_only a.num a.den b.num b.den l.num l.den r.num r.den a.sound b.sound l.sound r.sound le re x y h q) in
    IfNone-any _ _ none
