-- Ranks of the first n names, from ranks of more: how many of these names have a lower rank.
use Rattle.std.proofs.Common.{◌≡◌, ℕ, zero, suc, ◌+◌, ◌<◌, ◌≤◌, ◌⊎◌, inl, inr, Bool, true, false, cond, nat_lt, refl, ap, arith}
use Rattle.std.proofs.lemmas.Bool.{lt-ltb, ltb-true}
use Rattle.model_rosters.proofs.Counts.{cond_small}

one : (b : Bool) → b ≡ true → ◌≡◌ {A = ℕ} (cond b 1 0) 1
one b e = ap (λ (x : Bool). cond x 1 0) e

grows : (a b : Bool) → (a ≡ true → b ≡ true) → cond a 1 0 ≤ cond b 1 0
grows true b h = omega (arith, one b (h refl))
grows false b h = omega arith

module _ (f : ℕ → ℕ) where
  -- how many of the first n names have a rank below that of x
  abbrev pub lower : ℕ → ℕ → ℕ
  lower x zero = 0
  lower x (suc n) = cond (nat_lt (f n) (f x)) 1 0 + lower x n

  lower-le : (x n : ℕ) → lower x n ≤ n
  lower-le x zero = omega arith
  lower-le x (suc n) = omega (arith, cond_small (nat_lt (f n) (f x)), lower-le x n)

  not_itself : (x : ℕ) → ◌≡◌ {A = ℕ} (cond (nat_lt (f x) (f x)) 1 0) 0
  not_itself x = no (nat_lt (f x) (f x)) (λ e. let l = ltb-true (f x) (f x) e in absurd (omega arith))
    where
      no : (b : Bool) → (b ≡ true → ⊥) → ◌≡◌ {A = ℕ} (cond b 1 0) 0
      no true h = absurd (h refl)
      no false h = refl

  pub lower-lt : (x n : ℕ) → x < n → lower x n < n
  lower-lt x zero l = absurd (omega arith)
  lower-lt x (suc n) l = elim (at x n l) [
    | inl e ↦ omega (arith, one-same x n e, lower-le x n)
    | inr k ↦ omega (arith, cond_small (nat_lt (f n) (f x)), lower-lt x n k)
  ]
    where
      at : (x n : ℕ) → x < suc n → (x ≡ n) ⊎ (x < n)
      at x n l = grind arith

      one-same : (x n : ℕ) → x ≡ n → ◌≡◌ {A = ℕ} (cond (nat_lt (f n) (f x)) 1 0) 0
      one-same x n e = rw e (not_itself n)

  step : (x y n : ℕ) → f x < f y → cond (nat_lt (f n) (f x)) 1 0 ≤ cond (nat_lt (f n) (f y)) 1 0
  step x y n l = grows (nat_lt (f n) (f x)) (nat_lt (f n) (f y)) (λ e. lt-ltb (f n) (f y) (let k = ltb-true (f n) (f x) e in omega arith))

  lower-rises_weakly : (x y n : ℕ) → f x < f y → lower x n ≤ lower y n
  lower-rises_weakly x y zero l = omega arith
  lower-rises_weakly x y (suc n) l = omega (arith, step x y n l, lower-rises_weakly x y n l)

  pub lower-rises : (x y n : ℕ) → f x < f y → x < n → lower x n < lower y n
  lower-rises x y zero l k = absurd (omega arith)
  lower-rises x y (suc n) l k = elim (at x n k) [
    | inl e ↦ omega (arith, gone x n e, come x n e l, lower-rises_weakly x y n l)
    | inr m ↦ omega (arith, step x y n l, lower-rises x y n l m)
  ]
    where
      at : (x n : ℕ) → x < suc n → (x ≡ n) ⊎ (x < n)
      at x n l = grind arith

      gone : (x n : ℕ) → x ≡ n → ◌≡◌ {A = ℕ} (cond (nat_lt (f n) (f x)) 1 0) 0
      gone x n e = rw e (not_itself n)

      come : (z n : ℕ) → z ≡ n → f z < f y → ◌≡◌ {A = ℕ} (cond (nat_lt (f n) (f y)) 1 0) 1
      come z n e m = one (nat_lt (f n) (f y)) (lt-ltb (f n) (f y) (rw (← e) m))
