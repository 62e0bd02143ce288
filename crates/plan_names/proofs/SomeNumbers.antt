-- Tests of numbers, one by one.
use Rattle.std.proofs.Common.{◌≡◌, ◌⊎◌, inl, inr, ℕ, zero, suc, ◌<◌, ◌≤◌, ◌+◌, Bool, true, false, ◌||◌, arith, refl, sym, ap, ◌∙◌, subst}
use Rattle.plan_laws.specs.Names.{some_number}

or_true : (a b : Bool) → b ≡ true → (a || b) ≡ true
or_true true b e = refl
or_true false b e = e

or_left : (a b : Bool) → a ≡ true → (a || b) ≡ true
or_left true b e = refl
or_left false b e = absurd (sym_no e)
  where
    sym_no : false ≡ true → ⊥
    sym_no e = cc

or_false : (a b : Bool) → (a || b) ≡ false → (a ≡ false) × (b ≡ false)
or_false true b e = absurd (sym_no e)
  where
    sym_no : true ≡ false → ⊥
    sym_no e = cc
or_false false b e = (refl, e)

both_false : (a b : Bool) → a ≡ false → b ≡ false → (a || b) ≡ false
both_false true b e f = e
both_false false b e f = f

-- one more number that does not pass
pub some_more : (t : ℕ → Bool) (n k : ℕ) → some_number t n k ≡ false → t (n + k) ≡ false → some_number t n (k + 1) ≡ false
some_more t n zero e f = both_false (t n) false (subst (λ (m : ℕ). t m ≡ false) (omega arith) f) refl
some_more t n (suc k) e f =
    let h = or_false (t n) (some_number t (n + 1) k) e in
    let same : suc k + 1 ≡ suc (k + 1) = omega arith in
    ap (some_number t n) same ∙ both_false (t n) (some_number t (n + 1) (k + 1)) h.0 (some_more t (n + 1) k h.1 (subst (λ (m : ℕ). t m ≡ false) (omega arith) f))

-- a number that passes
pub some_here : (t : ℕ → Bool) (n k i : ℕ) → n ≤ i → i < n + k → t i ≡ true → some_number t n k ≡ true
some_here t n zero i lo hi e = absurd (omega (arith, lo, hi))
some_here t n (suc k) i lo hi e = go (grind arith) (λ later. some_here t (n + 1) k i later (omega (arith, hi)) e)
  where
    go : (n ≡ i) ⊎ (n + 1 ≤ i) → (n + 1 ≤ i → some_number t (n + 1) k ≡ true) → some_number t n (suc k) ≡ true
    go (inl same) more = or_left (t n) (some_number t (n + 1) k) (subst (λ (m : ℕ). t m ≡ true) (sym same) e)
    go (inr later) more = or_true (t n) (some_number t (n + 1) k) (more later)

-- ... from 0 on
pub none_more : (t : ℕ → Bool) (k : ℕ) → some_number t 0 k ≡ false → t k ≡ false → some_number t 0 (k + 1) ≡ false
none_more t k e f =
    let same : k ≡ 0 + k = omega arith in
    some_more t 0 k e (subst (λ (m : ℕ). t m ≡ false) same f)

pub none_at : (t : ℕ → Bool) (k n : ℕ) → k ≡ n → some_number t 0 k ≡ false → some_number t 0 n ≡ false
none_at t k n e h = subst (λ (m : ℕ). some_number t 0 m ≡ false) e h
