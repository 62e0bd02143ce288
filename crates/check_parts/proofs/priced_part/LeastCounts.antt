-- The least over a range of counts, one count after another.
use Rattle.std.proofs.Common.{◌≡◌, ℕ, ℤ, ◌+◌, refl, ap, ◌∙◌, add-one}
use Rattle.std.specs.Int.{int_min}
use Rattle.law_bounds.specs.Lagrangian.{least_from}

step : (f : ℕ → ℤ) (a n : ℕ) → int_min (least_from f a n) (f (a + (n + 1))) ≡ least_from f a (n + 1)
step f a n = rw add-one refl

pub least-more : (f : ℕ → ℤ) (a n : ℕ) (x y r : ℤ) → r ≡ int_min x y → x ≡ least_from f a n → y ≡ f (a + (n + 1)) → r ≡ least_from f a (n + 1)
least-more f a n x y r h k l = h ∙ ap (λ (z : ℤ). int_min z y) k ∙ ap (λ (z : ℤ). int_min (least_from f a n) z) l ∙ step f a n
