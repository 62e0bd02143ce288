-- Laws of sums over indexes.
use Rattle.std.proofs.Common.{◌≡◌, ℕ, ℤ, ◌<◌, arith, pos, suc, zero, ◌+ℤ◌, ◌*ℤ◌, sym, refl, ap, ◌∙◌}
use Rattle.std.proofs.lemmas.Int.{ints}
use lib.IntN.{*ℤ_comm}
use Rattle.law_bounds.specs.linear_programs.Sums.{total, dot}
use Rattle.law_bounds.proofs.linear_programs.Ring.{*ℤ-assoc, *ℤ-+ℤ}

pub total-same : (n : ℕ) (f g : ℕ → ℤ) → ((i : ℕ) → i < n → f i ≡ g i) → total n f ≡ total n g
total-same zero f g h = refl
total-same (suc n) f g h =
    let a = total-same n f g (λ i b. h i (omega arith)) in
    let b = h n (omega arith) in
    cc

pub total-add : (n : ℕ) (f g : ℕ → ℤ) → total n (λ i. f i +ℤ g i) ≡ total n f +ℤ total n g
total-add zero f g = refl
total-add (suc n) f g = omega (arith, ints, total-add n f g)

pub total-scale : (n : ℕ) (k : ℤ) (f : ℕ → ℤ) → total n (λ i. k *ℤ f i) ≡ k *ℤ total n f
total-scale zero k f = omega (arith, ints)
total-scale (suc n) k f = ap (λ (z : ℤ). z +ℤ k *ℤ f n) (total-scale n k f) ∙ sym (*ℤ-+ℤ k (total n f) (f n))

pub total-zero : (n : ℕ) → total n (λ i. pos 0) ≡ pos 0
total-zero zero = refl
total-zero (suc n) = omega (arith, ints, total-zero n)

-- in the first vector
pub dot-scale_left : (n : ℕ) (k : ℤ) (f g : ℕ → ℤ) → dot n (λ i. k *ℤ f i) g ≡ k *ℤ dot n f g
dot-scale_left n k f g = total-same n _ _ (λ i h. *ℤ-assoc k (f i) (g i)) ∙ total-scale n k (λ i. f i *ℤ g i)

pub dot-comm : (n : ℕ) (f g : ℕ → ℤ) → dot n f g ≡ dot n g f
dot-comm n f g = total-same n _ _ (λ i h. *ℤ_comm (f i) (g i))

pub dot-add_right : (n : ℕ) (f g h : ℕ → ℤ) → dot n f (λ i. g i +ℤ h i) ≡ dot n f g +ℤ dot n f h
dot-add_right n f g h = total-same n _ _ (λ i b. *ℤ-+ℤ (f i) (g i) (h i)) ∙ total-add n (λ i. f i *ℤ g i) (λ i. f i *ℤ h i)

pub dot-scale_right : (n : ℕ) (k : ℤ) (f g : ℕ → ℤ) → dot n f (λ i. k *ℤ g i) ≡ k *ℤ dot n f g
dot-scale_right n k f g = dot-comm n f (λ i. k *ℤ g i) ∙ dot-scale_left n k g f ∙ ap (λ (z : ℤ). k *ℤ z) (dot-comm n g f)

pub dot-zero_right : (n : ℕ) (f : ℕ → ℤ) → dot n f (λ i. pos 0) ≡ pos 0
dot-zero_right n f = total-same n _ _ (λ i h. omega (arith, ints)) ∙ total-zero n

pub dot-same_right : (n : ℕ) (f g h : ℕ → ℤ) → ((i : ℕ) → i < n → g i ≡ h i) → dot n f g ≡ dot n f h
dot-same_right n f g h e = total-same n _ _ (λ i b. ap (λ (z : ℤ). f i *ℤ z) (e i b))
