-- Sums as numbers, of which high ones stand for none.
use Rattle.std.proofs.Common.{◌≡◌, ℤ, ◌+ℤ◌, ◌≤ℤ◌, ◌<ℤ◌, ◌^◌, Bool, true, false, cond, Option, None, Some, IfSome, arith, refl, ap, ◌∙◌, ◌⊎◌, inl, inr, int_lt}
use Rattle.std.proofs.lemmas.Int.{ints}
use Rattle.model_rosters.specs.Sums.{Within, plus, AtMost, IsLesser}
use Rattle.tree_span_cells.specs.Numbers.{no_number, number_of, no_least, sum_below}

under_or_not : (z : ℤ) → (z <ℤ no_least) ⊎ (no_least ≤ℤ z)
under_or_not z = by (int_lt z no_least) refl
  where
    by : (t : Bool) → int_lt z no_least ≡ t → (z <ℤ no_least) ⊎ (no_least ≤ℤ z)
    by true e = inl (omega (arith, ints))
    by false e = inr (omega (arith, ints))

-- a low number stands for itself
pub below-some : (z : ℤ) → z <ℤ no_least → sum_below z ≡ Some z
below-some z low = by (int_lt z no_least) refl
  where
    by : (t : Bool) → int_lt z no_least ≡ t → sum_below z ≡ Some z
    by true e = ap (λ (q : Bool). cond q (Some z) None) e
    by false e = absurd (omega (arith, ints, low))

-- a high one for none
pub above-none : (z : ℤ) → no_least ≤ℤ z → sum_below z ≡ None
above-none z high = by (int_lt z no_least) refl
  where
    by : (t : Bool) → int_lt z no_least ≡ t → sum_below z ≡ None
    by true e = absurd (omega (arith, ints, high))
    by false e = ap (λ (q : Bool). cond q (Some z) None) e

-- how great the number of a small sum is, or of none
pub number-bounds : (v : Option ℤ) → IfSome v (Within (2 ^ 110)) → Within (2 ^ 125) (number_of v)
number-bounds None small = record { low = omega (arith, ints); high = omega (arith, ints) }
number-bounds (Some z) small = record { low = omega (arith, ints, small.low); high = omega (arith, ints, small.high) }

-- the numbers of two small sums and the price of an arc come to the number of their sum
pub number-part : (a b : Option ℤ) (e : ℤ) → IfSome a (Within (2 ^ 110)) → Within (2 ^ 96) e → IfSome b (Within (2 ^ 110))
    → sum_below (number_of a +ℤ (e +ℤ number_of b)) ≡ plus a (plus (Some e) b)
number-part None None e first price rest = above-none (no_number +ℤ (e +ℤ no_number)) (omega (arith, ints, price.low))
number-part None (Some y) e first price rest = above-none (no_number +ℤ (e +ℤ y)) (omega (arith, ints, price.low, rest.low))
number-part (Some x) None e first price rest = above-none (x +ℤ (e +ℤ no_number)) (omega (arith, ints, price.low, first.low))
number-part (Some x) (Some y) e first price rest = below-some (x +ℤ (e +ℤ y)) (omega (arith, ints, price.high, first.high, rest.high))

-- the same, of what was read and added
pub number-read : (z head arc tail price : ℤ) (a b : Option ℤ) → head ≡ number_of a → tail ≡ number_of b → arc ≡ price → z ≡ head +ℤ (arc +ℤ tail)
    → IfSome a (Within (2 ^ 110)) → Within (2 ^ 96) arc → IfSome b (Within (2 ^ 110)) → sum_below z ≡ plus a (plus (Some price) b)
number-read z head arc tail price a b one two value is first within rest =
    let e : z ≡ number_of a +ℤ (arc +ℤ number_of b) = omega (arith, ints, one, two, is) in
    ap sum_below e ∙ number-part a b arc first within rest ∙ ap (λ (q : ℤ). plus a (plus (Some q) b)) value

at_most_none : (v w : Option ℤ) → w ≡ None → AtMost v w
at_most_none v w e = rw e tt

at_most_some : (v w : Option ℤ) (y z : ℤ) → v ≡ Some y → w ≡ Some z → y ≤ℤ z → AtMost v w
at_most_some v w y z e f le = rw (e, f) le

-- a number that is not above another stands for no greater sum
at_most : (y z : ℤ) → y ≤ℤ z → AtMost (sum_below y) (sum_below z)
at_most y z le = by (under_or_not z)
  where
    by : (z <ℤ no_least) ⊎ (no_least ≤ℤ z) → AtMost (sum_below y) (sum_below z)
    by (inr h) = at_most_none (sum_below y) (sum_below z) (above-none z h)
    by (inl h) = at_most_some (sum_below y) (sum_below z) y z (below-some y (omega (arith, ints, h, le))) (below-some z h) le

-- the lesser of two numbers stands for the lesser of two sums
pub lesser-held : (y z : ℤ) → y ≤ℤ z → IsLesser (sum_below y) (sum_below z) (sum_below y)
lesser-held y z le = record { one = inl refl; left = at_most y y (omega (arith, ints)); right = at_most y z le }

pub lesser-new : (y z : ℤ) → z ≤ℤ y → IsLesser (sum_below y) (sum_below z) (sum_below z)
lesser-new y z le = record { one = inr refl; left = at_most z y le; right = at_most z z (omega (arith, ints)) }
