-- The least common denominator of fractions over kappa.
use Rattle.std.proofs.Common.{◌≡◌, ℕ, ℤ, zero, suc, arith, pos, negsuc, neg_ℤ, ◌*ℤ◌, ◌<ℤ◌, ◌*◌, ◌/◌, ◌^◌, ◌<◌, ◌≤◌, unsigned_abs, sym, ap, ◌∙◌, subst, refl}
use Rattle.std.specs.Int.{IsGcd, ◌∣◌}
use Rattle.std.proofs.lemmas.Int.{ints}
use Rattle.std.proofs.lemmas.Nat.Gcd.{dvd_trans}
use Rattle.std.proofs.Math.Nat.{div-mul_cancel, mul-div_cancel'}
use native.Mathlib.Nat.{dvd-mul_left, dvd-mul_right, le_of_dvd}
use Rattle.lp_fractions.proofs.CoprimeProducts.{gauss, cancel}
use Rattle.lp_fractions.proofs.LowestTerms.{gcd_positive, reduced_quot}
use Rattle.law_bounds.specs.master_laws.Rounding.{IsMadeWhole}
use Rattle.lp_rounded_prices.specs.Denominators.{IsNext, IsPast}

divides : (k n m : ℕ) → k * m ≡ n → k ∣ n
divides k n m e = subst (λ j. k ∣ j) e (dvd-mul_right k m)

-- ---- whole numbers
made_divides : (k e : ℕ) (x : ℤ) → 0 < k → IsMadeWhole (pos k) e x → k ∣ unsigned_abs x * e
made_divides k e (pos a) h (pos b, q) = divides k (a * e) b (omega (arith, ints, q))
made_divides k e (pos a) h (negsuc b, q) = let z : k * suc b ≡ 0 = omega (arith, ints, q) in divides k (a * e) 0 (omega (arith, ints, q))
made_divides k e (negsuc a) h (pos b, q) = divides k (suc a * e) 0 (omega (arith, ints, q))
made_divides k e (negsuc a) h (negsuc b, q) = divides k (suc a * e) (suc b) (omega (arith, ints, q))

divides_made : (k e : ℕ) (x : ℤ) → k ∣ unsigned_abs x * e → IsMadeWhole (pos k) e x
divides_made k e (pos a) h = (pos (a * e / k), ap pos (sym (mul-div_cancel' k h)))
divides_made k e (negsuc a) h = (neg_ℤ (pos (suc a * e / k)), turned k (suc a * e / k) e a (mul-div_cancel' k h))
  where
    turned : (k m e a : ℕ) → k * m ≡ suc a * e → negsuc a *ℤ pos e ≡ pos k *ℤ neg_ℤ (pos m)
    turned k zero e a q = omega (arith, ints, q)
    turned k (suc m) e a q = omega (arith, ints, q)

-- ---- the denominator of a / k in lowest terms
module _ (a k g : ℕ) (gcd : IsGcd a k g) (some : 0 < k) where
  pub g_some : 0 < g
  g_some = gcd_positive a k g gcd some

  part_is : k / g * g ≡ k
  part_is = div-mul_cancel g gcd.1

  number_is : a / g * g ≡ a
  number_is = div-mul_cancel g gcd.0

  coprime : IsGcd (a / g) (k / g) 1
  coprime = reduced_quot a k g (a / g) (k / g) gcd g_some number_is part_is

  pub part_some : 0 < k / g
  part_some = by (k / g) refl
    where
      by : (n : ℕ) → k / g ≡ n → 0 < n
      by zero e = let p = part_is in let z : k / g * g ≡ 0 = rw e (omega arith) in absurd (omega arith)
      by (suc n) e = omega arith

  pub into_part : (e : ℕ) → k ∣ a * e → k / g ∣ e
  into_part e h =
      let m = a * e / k in
      let q : k * m ≡ a * e = mul-div_cancel' k h in
      let x : (a / g * e) * g ≡ (k / g * m) * g = times (a / g) (k / g) m e g a k number_is part_is q in
      gauss (k / g) (a / g) e coprime (divides (k / g) (a / g * e) m (sym (cancel (a / g * e) (k / g * m) g g_some x)))
    where
      times : (b q m e g a k : ℕ) → b * g ≡ a → q * g ≡ k → k * m ≡ a * e → (b * e) * g ≡ (q * m) * g
      times b q m e g a k x y z = let z' : q * g * m ≡ b * g * e = rw (x, y) z in omega (arith, z')

  pub from_part : (e : ℕ) → k / g ∣ e → k ∣ a * e
  from_part e h =
      let m = e / (k / g) in
      let q : k / g * m ≡ e = mul-div_cancel' (k / g) h in
      divides k (a * e) (a / g * m) (times (a / g) (k / g) m e g a k number_is part_is q)
    where
      times : (b q m e g a k : ℕ) → b * g ≡ a → q * g ≡ k → q * m ≡ e → k * (b * m) ≡ a * e
      times b q m e g a k x y z = rw (sym x, sym y, sym z) (omega arith)

-- ---- the least common multiple
module _ (d q c : ℕ) (gcd : IsGcd d q c) (some : 0 < q) where
  pub lcm_old : d ∣ d / c * q
  lcm_old =
      let p = div-mul_cancel c gcd.0 in
      let r = div-mul_cancel c gcd.1 in
      divides d (d / c * q) (q / c) (times d q c (d / c) (q / c) p r)
    where
      times : (d q c x y : ℕ) → x * c ≡ d → y * c ≡ q → d * y ≡ x * q
      times d q c x y p r = rw (sym p, sym r) (omega arith)

  pub lcm_new : q ∣ d / c * q
  lcm_new = dvd-mul_left q (d / c)

  pub lcm_into : (e : ℕ) → d ∣ e → q ∣ e → d / c * q ∣ e
  lcm_into e h k =
      let c_some = gcd_positive d q c gcd some in
      let p = div-mul_cancel c gcd.0 in
      let r = div-mul_cancel c gcd.1 in
      let m = e / d in
      let n = e / q in
      let x : d * m ≡ e = mul-div_cancel' d h in
      let y : q * n ≡ e = mul-div_cancel' q k in
      let z : (d / c * m) * c ≡ (q / c * n) * c = times d q c (d / c) (q / c) m n p r (x ∙ sym y) in
      let w = cancel (d / c * m) (q / c * n) c c_some z in
      let cop = reduced_quot d q c (d / c) (q / c) gcd c_some p r in
      let v = gauss (q / c) (d / c) m cop (divides (q / c) (d / c * m) n (sym w)) in
      let u : q / c * (m / (q / c)) ≡ m = mul-div_cancel' (q / c) v in
      divides (d / c * q) e (m / (q / c)) (whole d q c (d / c) (q / c) m (m / (q / c)) e p r x u)
    where
      times : (d q c x y m n : ℕ) → x * c ≡ d → y * c ≡ q → d * m ≡ q * n → (x * m) * c ≡ (y * n) * c
      times d q c x y m n p r e = let e' : x * c * m ≡ y * c * n = rw (p, r) e in omega (arith, e')

      whole : (d q c x y m t e : ℕ) → x * c ≡ d → y * c ≡ q → d * m ≡ e → y * t ≡ m → x * q * t ≡ e
      whole d q c x y m t e p r s u = rw (sym s, sym u, sym p, sym r) (omega arith)

-- ---- one more number
pub next_is : (d : ℕ) (x : ℤ) (k g c : ℕ) → 1 ≤ d → 0 < k → IsGcd (unsigned_abs x) k g → IsGcd d (k / g) c → d / c * (k / g) ≤ 2 ^ 30 → IsNext d x (pos k) (d / c * (k / g))
next_is d x k g c sd sk gcd both few =
    let q = k / g in
    let sq = part_some (unsigned_abs x) k g gcd sk in
    record {
      some = positive;
      few = few;
      into = λ e h m. lcm_into d q c both sq e h (into_part (unsigned_abs x) k g gcd sk e (made_divides k e x sk m));
      old = λ e h. dvd_trans d (lcm_old d q c both sq) h;
      made = λ e h. divides_made k e x (from_part (unsigned_abs x) k g gcd sk e (dvd_trans q (lcm_new d q c both sq) h));
    }
  where
    positive : 1 ≤ d / c * (k / g)
    positive = by (d / c * (k / g)) refl
      where
        by : (n : ℕ) → d / c * (k / g) ≡ n → 1 ≤ n
        by (suc n) e = omega arith
        by zero e =
            let sq = part_some (unsigned_abs x) k g gcd sk in
            let h = lcm_old d (k / g) c both sq in
            let w = mul-div_cancel' d h in
            absurd (none d (k / g) c (d / c) sd sq (div-mul_cancel c both.0) e)
          where
            none : (d q c x : ℕ) → 1 ≤ d → 0 < q → x * c ≡ d → x * q ≡ 0 → ⊥
            none d q c zero h k e z = omega (arith, e)
            none d (suc q) c (suc x) h k e z = omega (arith, z)
            none d zero c (suc x) h k e z = omega arith

pub past_part : (d : ℕ) (x : ℤ) (k g : ℕ) → 0 < k → IsGcd (unsigned_abs x) k g → 2 ^ 30 < k / g → IsPast d x (pos k)
past_part d x k g sk gcd large e some h m = let l = le_of_dvd some (into_part (unsigned_abs x) k g gcd sk e (made_divides k e x sk m)) in omega (arith, l)

pub past_next : (d : ℕ) (x : ℤ) (k g c : ℕ) → 0 < k → IsGcd (unsigned_abs x) k g → IsGcd d (k / g) c → 2 ^ 30 < d / c * (k / g) → IsPast d x (pos k)
past_next d x k g c sk gcd both large e some h m =
    let l = le_of_dvd some (lcm_into d (k / g) c both (part_some (unsigned_abs x) k g gcd sk) e h (into_part (unsigned_abs x) k g gcd sk e (made_divides k e x sk m))) in
    omega (arith, l)

-- ---- at kappa as a whole number
size_is : (kappa : ℤ) (n : ℕ) → pos 0 <ℤ kappa → n ≡ unsigned_abs kappa → pos n ≡ kappa
size_is (pos k) n h e = ap pos e
size_is (negsuc k) n h e = absurd (omega (arith, ints))

size_some : (kappa : ℤ) (n : ℕ) → pos 0 <ℤ kappa → n ≡ unsigned_abs kappa → 0 < n
size_some kappa n h e = let a = size_is kappa n h e in omega (arith, ints)

module _ (d : ℕ) (x kappa : ℤ) (a n g : ℕ) (positive : pos 0 <ℤ kappa) (size : n ≡ unsigned_abs kappa) (number : a ≡ unsigned_abs x) (gcd : IsGcd a n g) where
  gcd' : IsGcd (unsigned_abs x) n g
  gcd' = subst (λ b. IsGcd b n g) number gcd

  pub gcd_some : 0 < g
  gcd_some = g_some (unsigned_abs x) n g gcd' (size_some kappa n positive size)

  pub quotient_some : 0 < n / g
  quotient_some = part_some (unsigned_abs x) n g gcd' (size_some kappa n positive size)

  pub common_some : (c : ℕ) → IsGcd d (n / g) c → 0 < c
  common_some c h = gcd_positive d (n / g) c h quotient_some

  pub next_at : (c : ℕ) → 1 ≤ d → IsGcd d (n / g) c → d / c * (n / g) ≤ 2 ^ 30 → IsNext d x kappa (d / c * (n / g))
  next_at c some both few =
      subst (λ (z : ℤ). IsNext d x z (d / c * (n / g))) (size_is kappa n positive size) (next_is d x n g c some (size_some kappa n positive size) gcd' both few)

  pub past_part_at : 2 ^ 30 < n / g → IsPast d x kappa
  past_part_at large = subst (λ (z : ℤ). IsPast d x z) (size_is kappa n positive size) (past_part d x n g (size_some kappa n positive size) gcd' large)

  pub past_next_at : (c : ℕ) → IsGcd d (n / g) c → 2 ^ 30 < d / c * (n / g) → IsPast d x kappa
  past_next_at c both large = subst (λ (z : ℤ). IsPast d x z) (size_is kappa n positive size) (past_next d x n g c (size_some kappa n positive size) gcd' both large)
