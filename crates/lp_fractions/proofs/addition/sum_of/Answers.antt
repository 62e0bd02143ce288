use Rattle.std.proofs.Common.{◌≡◌, ℤ, ◌*ℤ◌, ◌+ℤ◌, SFits, rules, arith, ap, ◌∙◌}
use Rattle.std.specs.Int.{w128}
use Rattle.std.proofs.lemmas.Int.{ints, to_z-of_z}
use Rattle.lp_fractions.specs.Range.{InRange}
use Rattle.lp_fractions.specs.Sum.{IsCommonForm, SumFits}
use Rattle.lp_fractions.proofs.CommonForms.{IfNone-any, sum_ratio, sum_only, left_ratio, right_ratio, den_positive}
use Rattle.lp_fractions.proofs.addition.sum_of.Goals as goal

pub returns-in_err-form-clause-none : goal.returns-in_err-form-clause-none
returns-in_err-form-clause-none c =
    let a = c.args.a.now in let b = c.args.b.now in
    let none : SumFits a.num a.den b.num b.den → ⊥ = λ s. c.in_err-form.ensures.none s.left s.right s.den s.form in
    IfNone-any _ _ none

pub returns-in_err-num-clause-none : goal.returns-in_err-num-clause-none
returns-in_err-num-clause-none c =
    let a = c.args.a.now in let b = c.args.b.now in let x = c.in_ok-form.form in
    let fl : SFits w128 x.left = search rules in let fr : SFits w128 x.right = search rules in let fx : SFits w128 x.den = search rules in
    let form : IsCommonForm a.num a.den b.num b.den x.left x.right x.den = c.in_ok-form.ensures.some in
    let wide : InRange (x.left +ℤ x.right) → ⊥ = simp to_z-of_z at c.in_err-num.ensures in
    IfNone-any _ _ (sum_only a.num a.den b.num b.den x.left x.right x.den a.sound.positive b.sound.positive form wide)

pub new-requires-clause-nonzero : goal.new-requires-clause-nonzero
new-requires-clause-nonzero c = λ zero.
    let a = c.args.a.now in let b = c.args.b.now in let x = c.in_ok-form.form in
    let fl : SFits w128 x.left = search rules in let fr : SFits w128 x.right = search rules in let fx : SFits w128 x.den = search rules in
    let form : IsCommonForm a.num a.den b.num b.den x.left x.right x.den = c.in_ok-form.ensures.some in
    let p = den_positive a.num a.den b.num b.den x.left x.right x.den a.sound.positive b.sound.positive form in
    omega (arith, ints)

pub returns-clause-value : goal.returns-clause-value
returns-clause-value c =
    let a = c.args.a.now in let b = c.args.b.now in let x = c.in_ok-form.form in
    let fl : SFits w128 x.left = search rules in let fr : SFits w128 x.right = search rules in let fx : SFits w128 x.den = search rules in
    let form : IsCommonForm a.num a.den b.num b.den x.left x.right x.den = c.in_ok-form.ensures.some in
    let fm : SFits w128 c.in_ok-num.num = search rules in
    let num : InRange (x.left +ℤ x.right) × (c.in_ok-num.num ≡ x.left +ℤ x.right) = simp to_z-of_z at c.in_ok-num.ensures in
    let ratio : c.new.result.num *ℤ x.den ≡ c.in_ok-num.num *ℤ c.new.result.den = simp to_z-of_z at c.new.ensures in
    sum_ratio a.num a.den b.num b.den x.left x.right x.den c.new.result.num c.new.result.den
    (left_ratio a.num a.den b.num b.den x.left x.right x.den a.sound.positive b.sound.positive form)
    (right_ratio a.num a.den b.num b.den x.left x.right x.den a.sound.positive b.sound.positive form)
    (den_positive a.num a.den b.num b.den x.left x.right x.den a.sound.positive b.sound.positive form)
    (ratio ∙ ap (λ (z : ℤ). z *ℤ c.new.result.den) num.1)
