-- Bits of sets of periods.
use Rattle.std.proofs.Common.{◌≡◌, ◌≢◌, ℕ, ◌<◌, ◌≤◌, ◌+◌, ◌-◌, ◌*◌, ◌/◌, ◌%◌, ◌^◌, ◌⊎◌, inl, inr, arith, ap, sym, ◌∙◌, subst, bit_or, bit_and}
use Rattle.std.specs.Int.{bit_at, w64, w128, trailing_zeros}
use Rattle.std.proofs.lemmas.Nat.{shr-shr}
use Rattle.std.proofs.lemmas.Nat.Bits.{bit_at-lt, bit_at_set_same, bit_at_set_other, bit_at_and, bit_at-trailing_zeros, bit_at-zero, bit_at_cat_low}
use Rattle.std.proofs.lemmas.Bool.{cases_eq}

-- one bit more
pub set-kept : (n k i : ℕ) → k < 128 → bit_at n i ≡ 1 → bit_at (bit_or n (1 * 2 ^ k % 2 ^ 128)) i ≡ 1
set-kept n k i lt h = by (cases_eq i k)
  where
    by : (i ≡ k) ⊎ (i ≢ k) → bit_at (bit_or n (1 * 2 ^ k % 2 ^ 128)) i ≡ 1
    by (inl e) = subst (λ (q : ℕ). bit_at (bit_or n (1 * 2 ^ k % 2 ^ 128)) q ≡ 1) (sym e) (bit_at_set_same w128 n k lt)
    by (inr ne) = bit_at_set_other w128 n k lt i ne ∙ h

-- and no other
pub set-only : (n k i : ℕ) → k < 128 → bit_at (bit_or n (1 * 2 ^ k % 2 ^ 128)) i ≡ 1 → (i ≡ k) ⊎ (bit_at n i ≡ 1)
set-only n k i lt h = by (cases_eq i k)
  where
    by : (i ≡ k) ⊎ (i ≢ k) → (i ≡ k) ⊎ (bit_at n i ≡ 1)
    by (inl e) = inl e
    by (inr ne) = inr (sym (bit_at_set_other w128 n k lt i ne) ∙ h)

-- a bit of a number is one of the number without its low bits
pub shifted : (n k i : ℕ) → bit_at (n / 2 ^ k) i ≡ bit_at n (k + i)
shifted n k i = ap (λ (q : ℕ). q % 2) (shr-shr n k i)

-- a number without low bits and 0 has none from there on
pub none-later : (n k i : ℕ) → n / 2 ^ k ≡ 0 → k ≤ i → bit_at n i ≡ 1 → ⊥
none-later n k i z le h =
    let e : k + (i - k) ≡ i = omega (arith, le) in
    let b : bit_at (n / 2 ^ k) (i - k) ≡ 1 = shifted n k (i - k) ∙ ap (λ (q : ℕ). bit_at n q) e ∙ h in
    let o : bit_at 0 (i - k) ≡ 1 = subst (λ (q : ℕ). bit_at q (i - k) ≡ 1) z b in
    absurd (omega (arith, sym (bit_at-zero (i - k)) ∙ o))

-- the lowest bit is below all others
pub lowest : (n : ℕ) → 0 < n → n < 2 ^ 128
    → (trailing_zeros w128 n < 128) × (bit_at n (trailing_zeros w128 n) ≡ 1) × ((i : ℕ) → bit_at n i ≡ 1 → trailing_zeros w128 n ≤ i)
lowest n some few = let t = bit_at-trailing_zeros w128 n some few in (t.0, t.1, λ i h. by i h t.2 (before i))
  where
    before : (i : ℕ) → (i < trailing_zeros w128 n) ⊎ (trailing_zeros w128 n ≤ i)
    before i = grind arith

    by : (i : ℕ) → bit_at n i ≡ 1 → ((j : ℕ) → j < trailing_zeros w128 n → bit_at n j ≡ 0) → (i < trailing_zeros w128 n) ⊎ (trailing_zeros w128 n ≤ i) → trailing_zeros w128 n ≤ i
    by i h low (inr q) = q
    by i h low (inl q) = let z = low i q in absurd (omega (arith, sym z ∙ h))

-- the low half of a number has its low bits
low-half : (n i : ℕ) → i < 64 → bit_at n i ≡ bit_at (n % 2 ^ 64) i
low-half n i lt = let e : n / 2 ^ 64 * 2 ^ 64 + n % 2 ^ 64 ≡ n = omega arith in
    ap (λ (q : ℕ). bit_at q i) (sym e) ∙ bit_at_cat_low (n / 2 ^ 64) 64 (n % 2 ^ 64) i lt

-- the lowest bit of a low half that has one is the lowest of all
pub lowest-half : (n h : ℕ) → h ≡ n % 2 ^ 64 → 0 < h
    → (trailing_zeros w64 h < 64) × (bit_at n (trailing_zeros w64 h) ≡ 1) × ((i : ℕ) → bit_at n i ≡ 1 → trailing_zeros w64 h ≤ i)
lowest-half n h is some =
    let few : h < 2 ^ 64 = omega (arith, is) in
    let t = bit_at-trailing_zeros w64 h some few in
    (t.0, low-half n (trailing_zeros w64 h) t.0 ∙ ap (λ (q : ℕ). bit_at q (trailing_zeros w64 h)) (sym is) ∙ t.1, λ i b. by i b t.0 t.2 (before i))
  where
    before : (i : ℕ) → (i < trailing_zeros w64 h) ⊎ (trailing_zeros w64 h ≤ i)
    before i = grind arith

    by : (i : ℕ) → bit_at n i ≡ 1 → trailing_zeros w64 h < 64 → ((j : ℕ) → j < trailing_zeros w64 h → bit_at h j ≡ 0) → (i < trailing_zeros w64 h) ⊎ (trailing_zeros w64 h ≤ i) → trailing_zeros w64 h ≤ i
    by i b fits low (inr q) = q
    by i b fits low (inl q) =
        let z : bit_at n i ≡ 0 = low-half n i (omega (arith, q, fits)) ∙ ap (λ (x : ℕ). bit_at x i) (sym is) ∙ low i q in
        absurd (omega (arith, sym z ∙ b))

-- both or either bit
pub both-bits : (a b i : ℕ) → bit_at (bit_and a b) i ≡ 1 → (bit_at a i ≡ 1) × (bit_at b i ≡ 1)
both-bits a b i h =
    let e = bit_at_and a b i in
    let x = bit_at-lt a i in
    let y = bit_at-lt b i in
    (omega (arith, e, h, x, y), omega (arith, e, h, x, y))

pub bits-both : (a b i : ℕ) → bit_at a i ≡ 1 → bit_at b i ≡ 1 → bit_at (bit_and a b) i ≡ 1
bits-both a b i h k = let e = bit_at_and a b i in omega (arith, e, h, k)

-- a bit is 1 or not
pub bit_or_not : (n i : ℕ) → (bit_at n i ≡ 1) ⊎ (bit_at n i ≡ 0)
bit_or_not n i = let x = bit_at-lt n i in by (bit_at n i) x
  where
    by : (q : ℕ) → q < 2 → (q ≡ 1) ⊎ (q ≡ 0)
    by q lt = grind arith
