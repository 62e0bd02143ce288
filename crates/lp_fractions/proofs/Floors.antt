-- Floors of scaled fractions.
use Rattle.std.proofs.Common.{◌≡◌, ℕ, ℤ, ◌+◌, ◌*◌, ◌-◌, ◌/◌, ◌%◌, ◌<◌, ◌≤◌, arith, pos, negsuc, suc, zero, ◌+ℤ◌, ◌-ℤ◌, ◌*ℤ◌, ◌<ℤ◌, ◌≤ℤ◌, sym, ap, ◌∙◌, SFits, Option, Some, None}
use Rattle.std.specs.Prelude.{IsNone, unsigned_abs}
use Rattle.std.specs.Option.{SomeIff}
use Rattle.std.specs.Int.{w128, int_div_euclid, int_rem_euclid}
use Rattle.std.proofs.lemmas.Int.{ints}
use Rattle.std.proofs.Math.Nat.{mul-le-mul_right}
use native.Mathlib.Nat.{le_of_mul-le-mul_right}
use borrow.Author.Differences.{up, down}
use Rattle.law_bounds.proofs.linear_programs.Ring.{dif, dif_up, dif_add, dif_mul, dif_same, mul_nonneg}
use Rattle.lp_fractions.proofs.Order.{euclid, int_quot_less}

-- ---- twice a quotient and a remainder
pub doubled_even : (v d q r m x y e : ℕ) → q * e + r ≡ v * (d / 2) → x * e + y ≡ 2 * (q * e + r) + m → d % 2 ≡ 0 → m ≡ 0 → x * e + y ≡ v * d
doubled_even v d q r m x y e h k p z =
    let parts : d ≡ 2 * (d / 2) + d % 2 = omega arith in
    omega (arith, ap (λ n. v * n) parts, ap (λ n. v * n) p)

pub doubled_odd : (v d q r m x y e : ℕ) → q * e + r ≡ v * (d / 2) → x * e + y ≡ 2 * (q * e + r) + m → (d % 2 ≡ 0 → ⊥) → m ≡ v → x * e + y ≡ v * d
doubled_odd v d q r m x y e h k p z =
    let one : d % 2 ≡ 1 = omega arith in
    let parts : d ≡ 2 * (d / 2) + d % 2 = omega arith in
    omega (arith, ap (λ n. v * n) parts, ap (λ n. v * n) one)

pub quotient_bound : (v d q r e : ℕ) → q * e + r ≡ v * d → v < e → q ≤ d
quotient_bound v d q r e h l =
    let bound : q * e ≤ d * e = omega (arith, h, mul-le-mul_right d l) in
    let positive : 0 < e = omega arith in
    le_of_mul-le-mul_right bound positive

-- ---- the floor
first' : (q q' e e' r r' d d' : ℕ) → (dif q q' *ℤ dif e e' +ℤ dif r r') *ℤ dif d d' ≡ (dif q q' *ℤ dif d d') *ℤ dif e e' +ℤ dif r r' *ℤ dif d d'
first' q q' e e' r r' d d' = simp (dif_add, dif_mul) (dif_same _ _ _ _ (omega arith))

first : (q e r d : ℤ) → (q *ℤ e +ℤ r) *ℤ d ≡ (q *ℤ d) *ℤ e +ℤ r *ℤ d
first q e r d = simp dif_up at (first' (up q) (down q) (up e) (down e) (up r) (down r) (up d) (down d))

second' : (x x' p p' e e' : ℕ) → (dif x x' +ℤ dif p p') *ℤ dif e e' ≡ dif x x' *ℤ dif e e' +ℤ dif p p' *ℤ dif e e'
second' x x' p p' e e' = simp (dif_add, dif_mul) (dif_same _ _ _ _ (omega arith))

second : (x p e : ℤ) → (x +ℤ p) *ℤ e ≡ x *ℤ e +ℤ p *ℤ e
second x p e = simp dif_up at (second' (up x) (down x) (up p) (down p) (up e) (down e))

quotient_unique : (a q p : ℤ) (d r s : ℕ) → a ≡ q *ℤ pos d +ℤ pos r → a ≡ p *ℤ pos d +ℤ pos s → r < d → s < d → q ≡ p
quotient_unique a q p d r s ea eb rd sd =
    let up_to = λ (l : q <ℤ p). int_quot_less a a q p d d r s ea rd eb (omega arith) l in
    let down_to = λ (l : p <ℤ q). int_quot_less a a p q d d s r eb sd ea (omega arith) l in
    let not_less : q <ℤ p → ⊥ = λ l. let k = up_to l in omega (arith, ints) in
    let not_more : p <ℤ q → ⊥ = λ l. let k = down_to l in omega (arith, ints) in
    same q p not_less not_more
  where
    same : (q p : ℤ) → (q <ℤ p → ⊥) → (p <ℤ q → ⊥) → q ≡ p
    same (pos a) (pos b) h k = ap pos (nat a b (λ l. h (omega (arith, ints))) (λ l. k (omega (arith, ints))))
      where
        nat : (a b : ℕ) → (a < b → ⊥) → (b < a → ⊥) → a ≡ b
        nat a b h k = grind arith
    same (pos a) (negsuc b) h k = absurd (k (omega (arith, ints)))
    same (negsuc a) (pos b) h k = absurd (h (omega (arith, ints)))
    same (negsuc a) (negsuc b) h k = ap negsuc (nat a b (λ l. k (omega (arith, ints))) (λ l. h (omega (arith, ints))))
      where
        nat : (a b : ℕ) → (a < b → ⊥) → (b < a → ⊥) → a ≡ b
        nat a b h k = grind arith

pub floor_is : (num q : ℤ) (den d part left r : ℕ) → num ≡ q *ℤ pos den +ℤ pos r → part * den + left ≡ r * d → left < den → int_div_euclid (num *ℤ pos d) (pos den) ≡ q *ℤ pos d +ℤ pos part
floor_is num q den d part left r e h l =
    let x = euclid (num *ℤ pos d) den (omega arith) in
    let here : num *ℤ pos d ≡ (q *ℤ pos d +ℤ pos part) *ℤ pos den +ℤ pos left =
    ap (λ (z : ℤ). z *ℤ pos d) e ∙ first q (pos den) (pos r) (pos d) ∙ ap (λ n. (q *ℤ pos d) *ℤ pos den +ℤ pos n) (sym h) ∙ omega (arith, ints, second (q *ℤ pos d) (pos part) (pos den)) in
    quotient_unique (num *ℤ pos d) (int_div_euclid (num *ℤ pos d) (pos den)) (q *ℤ pos d +ℤ pos part) den x.0 left x.3 here x.2 l

pub lower_fits : (q : ℤ) (d part : ℕ) → pos 0 ≤ℤ q → SFits w128 (q *ℤ pos d +ℤ pos part) → SFits w128 (q *ℤ pos d)
lower_fits q d part h f = let p = mul_nonneg q (pos d) h (omega (arith, ints)) in omega (arith, ints)

pub upper_is : (q : ℤ) (d part : ℕ) → part ≤ d → (q +ℤ pos 1) *ℤ pos d -ℤ pos (d - part) ≡ q *ℤ pos d +ℤ pos part
upper_is q d part h = let e = second q (pos 1) (pos d) in omega (arith, ints)

upper_sign : (q : ℤ) (d : ℕ) → q <ℤ pos 0 → ((q +ℤ pos 1) *ℤ pos d) ≤ℤ pos 0
upper_sign (pos q) d h = absurd (omega (arith, ints))
upper_sign (negsuc zero) d h = let e : negsuc zero +ℤ pos 1 ≡ pos 0 = omega (arith, ints) in rw e (omega (arith, ints))
upper_sign (negsuc (suc q)) d h = let e : negsuc (suc q) +ℤ pos 1 ≡ negsuc q = omega (arith, ints) in rw e (omega (arith, ints))

pub upper_fits : (q : ℤ) (d part : ℕ) → q <ℤ pos 0 → part ≤ d → SFits w128 (q *ℤ pos d +ℤ pos part) → SFits w128 ((q +ℤ pos 1) *ℤ pos d)
upper_fits q d part h l f = let s = upper_sign q d h in let e = upper_is q d part l in omega (arith, ints)

pub SomeIff-none : {T : Type 0} (o : Option T) (P : Type 0) (v : T) → IsNone o → (P → ⊥) → SomeIff o P v
SomeIff-none None P v e h = h
SomeIff-none (Some x) P v e h = absurd (cc)

-- the floor from the quotient and the remainder of the numerator
pub floor_from_parts : (num den : ℤ) (d part left : ℕ) → pos 0 <ℤ den → part * unsigned_abs den + left ≡ unsigned_abs (int_rem_euclid num den) * d → left < unsigned_abs den → int_div_euclid (num *ℤ pos d) den ≡ int_div_euclid num den *ℤ pos d +ℤ pos part
floor_from_parts num (negsuc den) d part left p h l = absurd (omega (arith, ints))
floor_from_parts num (pos den) d part left p h l =
    let x = euclid num den (omega (arith, ints)) in
    floor_is num (int_div_euclid num (pos den)) den d part left x.0 x.3 (h ∙ ap (λ (z : ℤ). unsigned_abs z * d) x.1) l
