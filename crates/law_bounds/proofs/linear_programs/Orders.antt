-- Products of whole numbers and their order.
use Rattle.std.proofs.Common.{◌≡◌, ℕ, ℤ, zero, suc, arith, pos, negsuc, ◌+ℤ◌, ◌-ℤ◌, ◌*ℤ◌, ◌≤ℤ◌, ◌<ℤ◌, ◌+◌, ◌*◌, refl, sym, ap, ◌∙◌}
use Rattle.std.proofs.lemmas.Int.{ints}
use lib.IntN.{*ℤ_comm}
use Rattle.law_bounds.proofs.linear_programs.Ring.{*ℤ-assoc, *ℤ-+ℤ}

pub times_times : (x : ℤ) (a b : ℕ) → (x *ℤ pos a) *ℤ pos b ≡ x *ℤ pos (a * b)
times_times x a b = *ℤ-assoc x (pos a) (pos b)

pub times_add : (x : ℤ) (a b : ℕ) → x *ℤ pos (a + b) ≡ x *ℤ pos a +ℤ x *ℤ pos b
times_add x a b = *ℤ-+ℤ x (pos a) (pos b)

pub times_swap : (x : ℤ) (a b : ℕ) → (x *ℤ pos a) *ℤ pos b ≡ (x *ℤ pos b) *ℤ pos a
times_swap x a b = times_times x a b ∙ ap (λ n. x *ℤ pos n) (omega arith) ∙ sym (times_times x b a)

pub times_le : (x y : ℤ) (n : ℕ) → x ≤ℤ y → (x *ℤ pos n) ≤ℤ (y *ℤ pos n)
times_le x y zero h = omega (arith, ints)
times_le x y (suc n) h =
    let a = times_add x n 1 in
    let b = times_add y n 1 in
    let e : n + 1 ≡ suc n = omega arith in
    let r = times_le x y n h in
    rw e at (step (x *ℤ pos n) (y *ℤ pos n) a b r)
  where
    step : (p q : ℤ) → x *ℤ pos (n + 1) ≡ p +ℤ x *ℤ pos 1 → y *ℤ pos (n + 1) ≡ q +ℤ y *ℤ pos 1 → p ≤ℤ q → (x *ℤ pos (n + 1)) ≤ℤ (y *ℤ pos (n + 1))
    step p q a b r = omega (arith, ints)

pub scale_le : (k x y : ℤ) → pos 0 ≤ℤ k → x ≤ℤ y → (k *ℤ x) ≤ℤ (k *ℤ y)
scale_le (pos k) x y h l = let a = times_le x y k l in let b = *ℤ_comm (pos k) x in let c = *ℤ_comm (pos k) y in omega (arith, ints)
scale_le (negsuc k) x y h l = absurd (omega (arith, ints))

-- a factor above 0 can be taken off both sides
pub le_factor : (k x y : ℤ) → pos 0 <ℤ k → (k *ℤ x) ≤ℤ (k *ℤ y) → x ≤ℤ y
le_factor k x y h l = by (x -ℤ y) refl
  where
    by : (z : ℤ) → x -ℤ y ≡ z → x ≤ℤ y
    by (negsuc n) e = omega (arith, ints)
    by (pos zero) e = omega (arith, ints)
    by (pos (suc n)) e =
        let a = scale_le k (y +ℤ pos 1) x (omega (arith, ints)) (omega (arith, ints)) in
        let b = *ℤ-+ℤ k y (pos 1) in
        absurd (omega (arith, ints))
