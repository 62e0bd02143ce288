-- Whole periods: minutes that are a multiple of a period's, divided by it.
use Rattle.std.proofs.Common.{◌≡◌, ◌⊎◌, inl, inr, ℕ, ◌<◌, ◌≤◌, ◌*◌, ◌/◌, true, false, arith, sym, ap, ◌∙◌, subst, mul-le-mul_right, le_of_eq, le_antisymm}
use Rattle.std.proofs.Math.Nat.{le_of_mul-le-mul_right, mul-div_cancel}
use Rattle.std.proofs.Math.Dec.{leb}
use Rattle.std.proofs.lemmas.Bool.Decides.{leb_tells}
use Rattle.plan_meaning.specs.Whole.{IsMultiple}

-- a multiple is so many periods
pub count_is : (x m : ℕ) (h : IsMultiple x m) → 1 ≤ m → x / m ≡ h.0
count_is x m (q, e) some = ap (λ (n : ℕ). n / m) e ∙ mul-div_cancel q some

pub whole_is : (x m : ℕ) → IsMultiple x m → 1 ≤ m → x ≡ x / m * m
whole_is x m (q, e) some = e ∙ ap (λ (n : ℕ). n * m) (sym (count_is x m (q, e) some))

-- at least a multiple
pub from_multiple : (x m n : ℕ) → IsMultiple x m → 1 ≤ m → x ≤ n * m → x / m ≤ n
from_multiple x m n h some le =
    le_of_mul-le-mul_right (subst (λ (y : ℕ). y ≤ n * m) (whole_is x m h some) le) some

pub to_multiple : (x m n : ℕ) → IsMultiple x m → 1 ≤ m → x / m ≤ n → x ≤ n * m
to_multiple x m n h some le =
    subst (λ (y : ℕ). y ≤ n * m) (sym (whole_is x m h some)) (mul-le-mul_right m le)

-- at most a multiple
pub below_multiple : (x m n : ℕ) → IsMultiple x m → 1 ≤ m → n * m ≤ x → n ≤ x / m
below_multiple x m n h some le =
    le_of_mul-le-mul_right (subst (λ (y : ℕ). n * m ≤ y) (whole_is x m h some) le) some

pub up_to_multiple : (x m n : ℕ) → IsMultiple x m → 1 ≤ m → n ≤ x / m → n * m ≤ x
up_to_multiple x m n h some le =
    subst (λ (y : ℕ). n * m ≤ y) (sym (whole_is x m h some)) (mul-le-mul_right m le)

pub same_count : (a b m : ℕ) → 1 ≤ m → a * m ≡ b * m → a ≡ b
same_count a b m some e =
    le_antisymm (le_of_mul-le-mul_right (le_of_eq e) some) (le_of_mul-le-mul_right (le_of_eq (sym e)) some)

-- two tests that tell the same
pub same_test : (a b c d : ℕ) → (a ≤ b → c ≤ d) → (c ≤ d → a ≤ b) → leb a b ≡ leb c d
same_test a b c d to back = go (leb_tells a b) (leb_tells c d)
  where
    go : ((leb a b ≡ true) × (a ≤ b)) ⊎ ((leb a b ≡ false) × (b < a)) → ((leb c d ≡ true) × (c ≤ d)) ⊎ ((leb c d ≡ false) × (d < c)) → leb a b ≡ leb c d
    go (inl x) (inl y) = x.0 ∙ sym y.0
    go (inr x) (inr y) = x.0 ∙ sym y.0
    go (inl x) (inr y) = let le = to x.1 in absurd (omega (arith, le, y.1))
    go (inr x) (inl y) = let le = back y.1 in absurd (omega (arith, le, x.1))

-- an hour's units that come out even: what a period costs, times 60
pub even_is : (hour m : ℕ) → IsMultiple (hour * m) 60 → 60 * (hour * m / 60) ≡ hour * m
even_is hour m h = let e = whole_is (hour * m) 60 h (omega arith) in omega (arith, e)
