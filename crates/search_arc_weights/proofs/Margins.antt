-- Sums and margins: which sums are fractions, and what that says of weights over another denominator.
use Rattle.std.proofs.Common.{ltb-true, ltb-false, ◌≡◌, ℕ, arith, ◌+◌, ◌-◌, ◌*◌, ◌/◌, ◌%◌, ◌≤◌, ◌<◌, Bool, true, false, cond, refl, ◌⊎◌, inl, inr}
use Rattle.std.specs.Prelude.{◌&&◌, nat_lt}
use Rattle.std.proofs.lemmas.Bool.{and_parts}
use Rattle.std.proofs.Math.Nat.{mul-le-mul_left}
use Rattle.law_bounds.specs.near_laws.NearSharp.{IsWellBetween, IsNearly}
use Rattle.search_arc_weights.specs.Choices.{is_fraction, nearest}
use Rattle.search_arc_weights.proofs.Units.{cancel_le, less}

module _ (d margin s : ℕ) where
  pub apart : is_fraction d margin s ≡ true → (margin < s % d) × (margin < d - s % d)
  apart e =
      let h = and_parts (nat_lt margin (s % d)) (nat_lt margin (d - s % d)) e in
      (ltb-true margin (s % d) h.0, ltb-true margin (d - s % d) h.1)

  pub close : is_fraction d margin s ≡ false → (s % d ≤ margin) ⊎ (d - s % d ≤ margin)
  close e = by (nat_lt margin (s % d)) refl e
    where
      by : (b : Bool) → nat_lt margin (s % d) ≡ b → (b && nat_lt margin (d - s % d)) ≡ false → (s % d ≤ margin) ⊎ (d - s % d ≤ margin)
      by false f g = inl (ltb-false margin (s % d) f)
      by true f g = inr (ltb-false margin (d - s % d) g)

  pub nearest_floor : s % d ≤ margin → nearest d margin s ≡ s / d
  nearest_floor h = by (nat_lt margin (s % d)) refl
    where
      by : (b : Bool) → nat_lt margin (s % d) ≡ b → cond b (s / d + 1) (s / d) ≡ s / d
      by true f = let l = ltb-true margin (s % d) f in absurd (omega (arith, h, l))
      by false f = refl

module _ (d s : ℕ) (some : 1 ≤ d) where
  rest_less : s % d < d
  rest_less = omega (arith, some)

  -- without a margin
  pub rest_none : is_fraction d 0 s ≡ false → s % d ≡ 0
  rest_none e = by (close d 0 s e)
    where
      by : (s % d ≤ 0) ⊎ (d - s % d ≤ 0) → s % d ≡ 0
      by (inl l) = omega (arith, l)
      by (inr l) = let r = rest_less in absurd (omega (arith, l, r))

  -- with a margin of a 4,096th
  pub well_between : is_fraction d (d / 4096) s ≡ true → IsWellBetween d (s / d) s
  well_between e =
      let h = apart d (d / 4096) s e in
      let low : d ≤ 4096 * (s % d) = omega (arith, h.0) in
      let high : d ≤ 4096 * (d - s % d) = omega (arith, h.1) in
      let r = rest_less in
      record { above = omega (arith, low); below = omega (arith, high, r) }

  pub nearly_nearest : is_fraction d (d / 4096) s ≡ false → IsNearly d (nearest d (d / 4096) s) s
  nearly_nearest e = by (nat_lt (d / 4096) (s % d)) refl (close d (d / 4096) s e)
    where
      by : (b : Bool) → nat_lt (d / 4096) (s % d) ≡ b → (s % d ≤ d / 4096) ⊎ (d - s % d ≤ d / 4096)
          → IsNearly d (cond b (s / d + 1) (s / d)) s
      by false f h =
          let l : 4096 * (s % d) ≤ d = omega (arith, ltb-false (d / 4096) (s % d) f) in
          record { above = omega (arith, l); below = omega arith }
      by true f (inl l) = let m = ltb-true (d / 4096) (s % d) f in absurd (omega (arith, l, m))
      by true f (inr l) =
          let h : 4096 * (d - s % d) ≤ d = omega (arith, l) in
          let r = rest_less in
          record { above = omega (arith, r); below = omega (arith, h, r) }

-- ---- the same number over another denominator
module _ (d q s n : ℕ) (some : 0 < d) (e : q * s ≡ d * n) where
  pub well_over : (b : ℕ) → IsWellBetween d b s → IsWellBetween q b n
  well_over b h = record {
    above = let l = mul-le-mul_left q h.above in cancel_le d (4096 * (q * b) + q) (4096 * n) some (omega (arith, e, l));
    below = let l = mul-le-mul_left q h.below in cancel_le d (4096 * n + q) (4096 * (q * (b + 1))) some (omega (arith, e, l));
  }

  pub nearly_over : (k : ℕ) → IsNearly d k s → IsNearly q k n
  nearly_over k h = record {
    above = let l = mul-le-mul_left q h.above in cancel_le d (4096 * n) (4096 * (q * k) + q) some (omega (arith, e, l));
    below = let l = mul-le-mul_left q h.below in cancel_le d (4096 * (q * k)) (4096 * n + q) some (omega (arith, e, l));
  }

pub below_high : (q b n h : ℕ) → 0 < q → IsWellBetween q b n → n ≤ q * h → b < h
below_high q b n h some w l = less q b h (omega (arith, some, w.above, l))
