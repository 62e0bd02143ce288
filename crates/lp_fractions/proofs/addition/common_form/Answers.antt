use Rattle.std.proofs.Common.{◌≡◌, ℤ, ◌*ℤ◌, SFits, rules, unsigned_abs, subst}
use Rattle.std.specs.Int.{w128, IsGcd}
use Rattle.std.proofs.lemmas.Int.{to_z-of_z}
use Rattle.lp_fractions.specs.Range.{InRange}
use Rattle.lp_fractions.specs.Sum.{IsCommonForm}
use Rattle.lp_fractions.proofs.CommonForms.{IfNone-any, factor_positive, form_is, form_only}
use Rattle.lp_fractions.proofs.addition.common_form.Goals as goal

pub quotient-d_part-requires-clause-positive : goal.quotient-d_part-requires-clause-positive
quotient-d_part-requires-clause-positive c =
    let a = c.args.a.now in let b = c.args.b.now in
    let fd : SFits w128 c.den-d.result = search rules in
    let fe : SFits w128 c.den-e.result = search rules in
    let fg : SFits w128 c.gcd-factor.result = search rules in
    let h : IsGcd (unsigned_abs a.den) (unsigned_abs b.den) (unsigned_abs c.gcd-factor.result) = rw (c.den-d.ensures.value, c.den-e.ensures.value) at (simp to_z-of_z at c.gcd-factor.ensures.value) in
    simp to_z-of_z (factor_positive a.den b.den c.gcd-factor.result b.sound.positive h c.gcd-factor.ensures.sign)

pub quotient-d_part-requires-clause-divides : goal.quotient-d_part-requires-clause-divides
quotient-d_part-requires-clause-divides c =
    let a = c.args.a.now in let b = c.args.b.now in
    let fd : SFits w128 c.den-d.result = search rules in
    let fe : SFits w128 c.den-e.result = search rules in
    let fg : SFits w128 c.gcd-factor.result = search rules in
    let h : IsGcd (unsigned_abs a.den) (unsigned_abs b.den) (unsigned_abs c.gcd-factor.result) = rw (c.den-d.ensures.value, c.den-e.ensures.value) at (simp to_z-of_z at c.gcd-factor.ensures.value) in
    simp to_z-of_z (rw c.den-d.ensures.value h.0)

pub quotient-e_part-requires-clause-divides : goal.quotient-e_part-requires-clause-divides
quotient-e_part-requires-clause-divides c =
    let a = c.args.a.now in let b = c.args.b.now in
    let fd : SFits w128 c.den-d.result = search rules in
    let fe : SFits w128 c.den-e.result = search rules in
    let fg : SFits w128 c.gcd-factor.result = search rules in
    let h : IsGcd (unsigned_abs a.den) (unsigned_abs b.den) (unsigned_abs c.gcd-factor.result) = rw (c.den-d.ensures.value, c.den-e.ensures.value) at (simp to_z-of_z at c.gcd-factor.ensures.value) in
    simp to_z-of_z (rw c.den-e.ensures.value h.1)

pub returns-in_err-left-clause-none : goal.returns-in_err-left-clause-none
returns-in_err-left-clause-none c =
    let a = c.args.a.now in let b = c.args.b.now in
    let fd : SFits w128 c.den-d.result = search rules in
    let fe : SFits w128 c.den-e.result = search rules in
    let fg : SFits w128 c.gcd-factor.result = search rules in
    let h : IsGcd (unsigned_abs a.den) (unsigned_abs b.den) (unsigned_abs c.gcd-factor.result) = rw (c.den-d.ensures.value, c.den-e.ensures.value) at (simp to_z-of_z at c.gcd-factor.ensures.value) in
    let fu : SFits w128 c.quotient-d_part.result = search rules in
    let fv : SFits w128 c.quotient-e_part.result = search rules in
    let du : c.gcd-factor.result *ℤ c.quotient-d_part.result ≡ a.den = rw c.den-d.ensures.value at (simp to_z-of_z at c.quotient-d_part.ensures) in
    let ev : c.gcd-factor.result *ℤ c.quotient-e_part.result ≡ b.den = rw c.den-e.ensures.value at (simp to_z-of_z at c.quotient-e_part.ensures) in
    let fn : SFits w128 c.num.result = search rules in
    let wide : InRange (a.num *ℤ c.quotient-e_part.result) → ⊥ = rw c.num.ensures at (simp to_z-of_z at c.in_err-left.ensures) in
    let none : (l r x : ℤ) → IsCommonForm a.num a.den b.num b.den l r x → ⊥ = λ l r x form. wide (subst (λ (z : ℤ). InRange z) (form_only a.num a.den b.num b.den c.gcd-factor.result c.quotient-d_part.result c.quotient-e_part.result a.sound.positive b.sound.positive h c.gcd-factor.ensures.sign du ev l r x form).0 form.left_range) in
    IfNone-any _ _ none

pub returns-in_err-right-clause-none : goal.returns-in_err-right-clause-none
returns-in_err-right-clause-none c =
    let a = c.args.a.now in let b = c.args.b.now in
    let fd : SFits w128 c.den-d.result = search rules in
    let fe : SFits w128 c.den-e.result = search rules in
    let fg : SFits w128 c.gcd-factor.result = search rules in
    let h : IsGcd (unsigned_abs a.den) (unsigned_abs b.den) (unsigned_abs c.gcd-factor.result) = rw (c.den-d.ensures.value, c.den-e.ensures.value) at (simp to_z-of_z at c.gcd-factor.ensures.value) in
    let fu : SFits w128 c.quotient-d_part.result = search rules in
    let fv : SFits w128 c.quotient-e_part.result = search rules in
    let du : c.gcd-factor.result *ℤ c.quotient-d_part.result ≡ a.den = rw c.den-d.ensures.value at (simp to_z-of_z at c.quotient-d_part.ensures) in
    let ev : c.gcd-factor.result *ℤ c.quotient-e_part.result ≡ b.den = rw c.den-e.ensures.value at (simp to_z-of_z at c.quotient-e_part.ensures) in
    let fn : SFits w128 c.num.result = search rules in
    let fm : SFits w128 c.num-2.result = search rules in
    let wide : InRange (b.num *ℤ c.quotient-d_part.result) → ⊥ = rw c.num-2.ensures at (simp to_z-of_z at c.in_err-right.ensures) in
    let none : (l r x : ℤ) → IsCommonForm a.num a.den b.num b.den l r x → ⊥ = λ l r x form. wide (subst (λ (z : ℤ). InRange z) (form_only a.num a.den b.num b.den c.gcd-factor.result c.quotient-d_part.result c.quotient-e_part.result a.sound.positive b.sound.positive h c.gcd-factor.ensures.sign du ev l r x form).1 form.right_range) in
    IfNone-any _ _ none

pub returns-in_err-den-clause-none : goal.returns-in_err-den-clause-none
returns-in_err-den-clause-none c =
    let a = c.args.a.now in let b = c.args.b.now in
    let fd : SFits w128 c.den-d.result = search rules in
    let fe : SFits w128 c.den-e.result = search rules in
    let fg : SFits w128 c.gcd-factor.result = search rules in
    let h : IsGcd (unsigned_abs a.den) (unsigned_abs b.den) (unsigned_abs c.gcd-factor.result) = rw (c.den-d.ensures.value, c.den-e.ensures.value) at (simp to_z-of_z at c.gcd-factor.ensures.value) in
    let fu : SFits w128 c.quotient-d_part.result = search rules in
    let fv : SFits w128 c.quotient-e_part.result = search rules in
    let du : c.gcd-factor.result *ℤ c.quotient-d_part.result ≡ a.den = rw c.den-d.ensures.value at (simp to_z-of_z at c.quotient-d_part.ensures) in
    let ev : c.gcd-factor.result *ℤ c.quotient-e_part.result ≡ b.den = rw c.den-e.ensures.value at (simp to_z-of_z at c.quotient-e_part.ensures) in
    let fn : SFits w128 c.num.result = search rules in
    let wide : InRange (c.quotient-d_part.result *ℤ b.den) → ⊥ = rw c.den-e.ensures.value at (simp to_z-of_z at c.in_err-den.ensures) in
    let none : (l r x : ℤ) → IsCommonForm a.num a.den b.num b.den l r x → ⊥ = λ l r x form. wide (subst (λ (z : ℤ). InRange z) (form_only a.num a.den b.num b.den c.gcd-factor.result c.quotient-d_part.result c.quotient-e_part.result a.sound.positive b.sound.positive h c.gcd-factor.ensures.sign du ev l r x form).2 form.den_range) in
    IfNone-any _ _ none

pub returns-clause-some : goal.returns-clause-some
returns-clause-some c =
    let a = c.args.a.now in let b = c.args.b.now in
    let fd : SFits w128 c.den-d.result = search rules in
    let fe : SFits w128 c.den-e.result = search rules in
    let fg : SFits w128 c.gcd-factor.result = search rules in
    let h : IsGcd (unsigned_abs a.den) (unsigned_abs b.den) (unsigned_abs c.gcd-factor.result) = rw (c.den-d.ensures.value, c.den-e.ensures.value) at (simp to_z-of_z at c.gcd-factor.ensures.value) in
    let fu : SFits w128 c.quotient-d_part.result = search rules in
    let fv : SFits w128 c.quotient-e_part.result = search rules in
    let du : c.gcd-factor.result *ℤ c.quotient-d_part.result ≡ a.den = rw c.den-d.ensures.value at (simp to_z-of_z at c.quotient-d_part.ensures) in
    let ev : c.gcd-factor.result *ℤ c.quotient-e_part.result ≡ b.den = rw c.den-e.ensures.value at (simp to_z-of_z at c.quotient-e_part.ensures) in
    let fn : SFits w128 c.num.result = search rules in
    let fm : SFits w128 c.num-2.result = search rules in
    let fl : SFits w128 c.in_ok-left.left = search rules in
    let fr : SFits w128 c.in_ok-right.right = search rules in
    let fx : SFits w128 c.in_ok-den.den = search rules in
    let left : InRange (a.num *ℤ c.quotient-e_part.result) × (c.in_ok-left.left ≡ a.num *ℤ c.quotient-e_part.result) = rw c.num.ensures at (simp to_z-of_z at c.in_ok-left.ensures) in
    let right : InRange (b.num *ℤ c.quotient-d_part.result) × (c.in_ok-right.right ≡ b.num *ℤ c.quotient-d_part.result) = rw c.num-2.ensures at (simp to_z-of_z at c.in_ok-right.ensures) in
    let den : InRange (c.quotient-d_part.result *ℤ b.den) × (c.in_ok-den.den ≡ c.quotient-d_part.result *ℤ b.den) = rw c.den-e.ensures.value at (simp to_z-of_z at c.in_ok-den.ensures) in
    simp to_z-of_z (form_is a.num a.den b.num b.den c.gcd-factor.result c.quotient-d_part.result c.quotient-e_part.result a.sound.positive b.sound.positive h c.gcd-factor.ensures.sign du ev _ _ _ left.1 right.1 den.1 (rw left.1 left.0) (rw right.1 right.0) (rw den.1 den.0))
