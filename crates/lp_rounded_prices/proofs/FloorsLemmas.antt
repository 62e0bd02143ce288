-- Floors of numbers over kappa, and of their sizes.
use Rattle.std.proofs.Common.{◌≡◌, ℕ, ℤ, arith, pos, negsuc, neg_ℤ, ◌+ℤ◌, ◌-ℤ◌, ◌*ℤ◌, ◌<ℤ◌, ◌≤ℤ◌, ◌^◌, ◌<◌, ◌≤◌, unsigned_abs, ap, ◌∙◌}
use Rattle.std.proofs.lemmas.Int.{ints}
use lib.IntN.{*ℤ_comm}
use Rattle.law_bounds.proofs.linear_programs.Ring.{*ℤ-+ℤ, pos_factor}
use Rattle.law_bounds.proofs.linear_programs.Orders.{times_le}
use Rattle.lp_fractions.proofs.Order.{euclid}
use Rattle.lp_fractions.specs.Scaled.{scaled_floor}
use Rattle.lp_fractions.specs.declared.wide.TooWide.{TooWide}
use Rattle.lp_fractions.specs.declared.wide.TooWide.TheVariants.{Scaled}
use Rattle.model_rosters.specs.Sums.{Within}
use Rattle.law_bounds.specs.master_laws.Rounding.{IsFloor}
use Rattle.law_bounds.proofs.master_laws.Numbers.{add_times, neg_times}
use Rattle.lp_rounded_prices.specs.Floors.{IsWide}

pub floor_is : (kappa x : ℤ) (d : ℕ) → pos 0 <ℤ kappa → IsFloor kappa d x (scaled_floor x kappa d)
floor_is (negsuc k) x d h = absurd (omega (arith, ints))
floor_is (pos k) x d h =
    let e = euclid (x *ℤ pos d) k (omega (arith, ints)) in
    let turned = *ℤ_comm (pos k) (scaled_floor x (pos k) d) in
    let low = e.2 in
    let is = e.3 in
    record { low = omega (arith, ints, turned, is, low); high = omega (arith, ints, turned, is, low) }

-- a price within the greatest size
pub within_is : (z : ℤ) (n : ℕ) → pos (unsigned_abs z) ≤ℤ pos n → Within n z
within_is (pos a) n h = record { low = omega (arith, ints); high = omega (arith, ints) }
within_is (negsuc a) n h = record { low = omega (arith, ints); high = omega (arith, ints) }

above : (n m : ℕ) → (n ≤ m → ⊥) → m < n
above n m h = grind arith

pub wide_is : (kappa x : ℤ) (d : ℕ) (fault : TooWide) → pos 0 <ℤ kappa → (pos (unsigned_abs (scaled_floor x kappa d)) ≤ℤ pos (2 ^ 80) → ⊥)
    → fault ≡ Scaled x kappa d (pos (2 ^ 80)) → IsWide kappa d x x fault
wide_is kappa x d fault h out told = record { rounded = scaled_floor x kappa d; floor = floor_is kappa x d h; wide = past (unsigned_abs (scaled_floor x kappa d)) out; told = told }
  where
    past : (n : ℕ) → (pos n ≤ℤ pos (2 ^ 80) → ⊥) → 2 ^ 80 < n
    past n out = above n (2 ^ 80) (λ l. out (omega (arith, ints)))

-- a number that is not negative has a floor that is not
pub floor_nonneg : (kappa : ℤ) (d : ℕ) (y p : ℤ) → pos 0 <ℤ kappa → pos 0 ≤ℤ y → IsFloor kappa d y p → pos 0 ≤ℤ p
floor_nonneg kappa d y p positive h f =
    let a = times_le (pos 0) y d h in
    let high = f.high in
    let e = *ℤ-+ℤ kappa p (pos 1) in
    let one = *ℤ_comm kappa (pos 1) in
    let above : pos 0 <ℤ (kappa *ℤ (p +ℤ pos 1)) = omega (arith, ints, a, high, e, one) in
    let b = pos_factor kappa (p +ℤ pos 1) positive above in
    omega (arith, ints, b)

-- ---- sizes of numbers of at most 0
module _ (kappa x y : ℤ) (d : ℕ) (positive : pos 0 <ℤ kappa) (less : y ≡ neg_ℤ (x +ℤ kappa)) where
  moved : (q : ℤ) → IsFloor kappa d y q → IsFloor kappa d (neg_ℤ x) (q +ℤ pos d)
  moved q f =
      let low = f.low in
      let high = f.high in
      let a : y *ℤ pos d ≡ neg_ℤ ((x +ℤ kappa) *ℤ pos d) = ap (λ (z : ℤ). z *ℤ pos d) less ∙ neg_times (x +ℤ kappa) d in
      let b = add_times x kappa d in
      let c = neg_times x d in
      let e = *ℤ-+ℤ kappa q (pos d) in
      record { low = omega (arith, ints, low, a, b, c, e); high = omega (arith, ints, high, a, b, c, e) }

  pub size_is : IsFloor kappa d (neg_ℤ x) (scaled_floor y kappa d +ℤ pos d)
  size_is = moved _ (floor_is kappa y d positive)

  pub size_nonneg : x ≤ℤ pos 0 → pos 0 ≤ℤ (scaled_floor y kappa d +ℤ pos d)
  size_nonneg h = floor_nonneg kappa d (neg_ℤ x) _ positive (omega (arith, ints)) size_is

  pub size_most : pos (unsigned_abs (scaled_floor y kappa d)) ≤ℤ (pos (2 ^ 80) -ℤ pos d) → (scaled_floor y kappa d +ℤ pos d) ≤ℤ pos (2 ^ 80)
  size_most h = by (scaled_floor y kappa d) h
    where
      by : (q : ℤ) → pos (unsigned_abs q) ≤ℤ (pos (2 ^ 80) -ℤ pos d) → (q +ℤ pos d) ≤ℤ pos (2 ^ 80)
      by q h = omega (arith, ints)

  pub size_wide : (fault : TooWide) → x ≤ℤ pos 0 → d ≤ 2 ^ 30 → (pos (unsigned_abs (scaled_floor y kappa d)) ≤ℤ (pos (2 ^ 80) -ℤ pos d) → ⊥)
      → fault ≡ Scaled x kappa d (pos (2 ^ 80)) → IsWide kappa d x (neg_ℤ x) fault
  size_wide fault h few out told = record { rounded = _; floor = size_is; wide = past (scaled_floor y kappa d) (size_nonneg h) out; told = told }
    where
      past : (q : ℤ) → pos 0 ≤ℤ (q +ℤ pos d) → (pos (unsigned_abs q) ≤ℤ (pos (2 ^ 80) -ℤ pos d) → ⊥) → 2 ^ 80 < unsigned_abs (q +ℤ pos d)
      past q l out = above _ _ (λ k. out (omega (arith, ints)))
