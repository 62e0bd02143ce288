-- A sum that may not be there, as one number.
use Rattle.std.specs.Prelude.{ℤ, pos, ◌≡◌, ◌^◌, Bool, true, false, cond, Option, None, Some, refl, int_lt}
use Rattle.std.specs.Ordering.{int_eq}
use Rattle.std.specs.Cmp.{signed_Decides}
use Rattle.std.proofs.Common.{sym}

-- one number stands for none, so high that the sum of two with the price of an arc is high too, and fits
abbrev pub no_number : ℤ
no_number = pos (2 ^ 125)

-- the sum that a number stands for
abbrev pub sum_of : ℤ → Option ℤ
sum_of z = cond (int_eq z no_number) None (Some z)

-- the number that stands for a sum
abbrev pub number_of : Option ℤ → ℤ
number_of None = no_number
number_of (Some z) = z

same_number : (z : ℤ) (b : Bool) → (b ≡ true → z ≡ no_number) → number_of (cond b None (Some z)) ≡ z
same_number z true h = sym (h refl)
same_number z false h = refl

-- the number of a sum is the number that it was read from
pub number_of-sum_of : (z : ℤ) → number_of (sum_of z) ≡ z
number_of-sum_of z = same_number z (int_eq z no_number) (signed_Decides z no_number).0

-- from this number on, a sum of numbers is none
abbrev pub no_least : ℤ
no_least = pos (2 ^ 119)

-- the sum that a sum of numbers comes to
abbrev pub sum_below : ℤ → Option ℤ
sum_below z = cond (int_lt z no_least) (Some z) None
