-- Inverses of fractions.
use Rattle.std.proofs.Common.{◌≡◌, ℤ, arith, pos, ◌+ℤ◌, ◌-ℤ◌, ◌*ℤ◌, neg_ℤ, ◌<ℤ◌, unsigned_abs, sym, ap, ◌∙◌, ◌⊎◌, inl, inr}
use Rattle.std.proofs.lemmas.Int.{ints}
use Rattle.std.proofs.lemmas.Nat.Gcd.{IsGcd-swap}
use lib.IntN.{*ℤ_comm}
use Rattle.law_bounds.proofs.linear_programs.Ring.{neg-*ℤ}
use Rattle.lp_fractions.specs.Fraction.{IsFraction}

pub inverse_sound : (n d : ℤ) → IsFraction n d → pos 0 <ℤ n → IsFraction d n
inverse_sound n d f h = record { num_range = f.den_range; den_range = f.num_range; positive = h; reduced = IsGcd-swap _ _ 1 f.reduced }

same_size : (z : ℤ) → unsigned_abs (pos 0 +ℤ neg_ℤ z) ≡ unsigned_abs z
same_size z = omega (arith, ints)

pub negative_inverse_sound : (n d : ℤ) → IsFraction n d → n <ℤ pos 0 → IsFraction (pos 0 -ℤ d) (pos 0 -ℤ n)
negative_inverse_sound n d f h = record {
  num_range = omega (arith, ints, f.den_range);
  den_range = omega (arith, ints, f.num_range);
  positive = omega (arith, ints);
  reduced = rw (same_size d, same_size n) (IsGcd-swap _ _ 1 f.reduced);
}

neg-right : (a b : ℤ) → a *ℤ neg_ℤ b ≡ neg_ℤ (a *ℤ b)
neg-right a b = *ℤ_comm a (neg_ℤ b) ∙ neg-*ℤ b a ∙ ap neg_ℤ (*ℤ_comm b a)

left_negated : (x d m : ℤ) → x *ℤ (d *ℤ neg_ℤ m) ≡ neg_ℤ (x *ℤ (d *ℤ m))
left_negated x d m = ap (λ (z : ℤ). x *ℤ z) (neg-right d m) ∙ neg-right x (d *ℤ m)

right_negated : (n e y : ℤ) → (n *ℤ neg_ℤ e) *ℤ y ≡ neg_ℤ ((n *ℤ e) *ℤ y)
right_negated n e y = ap (λ (z : ℤ). z *ℤ y) (neg-right n e) ∙ neg-*ℤ (n *ℤ e) y

-- a product with the inverse is the quotient, and the other way round
module _ (n d m e i j x y : ℤ) (inverse : ((i ≡ e) × (j ≡ m)) ⊎ ((i ≡ neg_ℤ e) × (j ≡ neg_ℤ m))) where
  pub quotient_from_product : x *ℤ (d *ℤ j) ≡ (n *ℤ i) *ℤ y → x *ℤ (d *ℤ m) ≡ (n *ℤ e) *ℤ y
  quotient_from_product h = by inverse
    where
      by : ((i ≡ e) × (j ≡ m)) ⊎ ((i ≡ neg_ℤ e) × (j ≡ neg_ℤ m)) → x *ℤ (d *ℤ m) ≡ (n *ℤ e) *ℤ y
      by (inl p) = rw (p.0, p.1) at h
      by (inr p) =
          let k : neg_ℤ (x *ℤ (d *ℤ m)) ≡ neg_ℤ ((n *ℤ e) *ℤ y) = sym (left_negated x d m) ∙ (rw (p.0, p.1) at h) ∙ right_negated n e y in
          omega (arith, ints)

  pub product_from_quotient : x *ℤ (d *ℤ m) ≡ (n *ℤ e) *ℤ y → x *ℤ (d *ℤ j) ≡ (n *ℤ i) *ℤ y
  product_from_quotient h = by inverse
    where
      by : ((i ≡ e) × (j ≡ m)) ⊎ ((i ≡ neg_ℤ e) × (j ≡ neg_ℤ m)) → x *ℤ (d *ℤ j) ≡ (n *ℤ i) *ℤ y
      by (inl p) = rw (p.0, p.1) h
      by (inr p) = rw (p.0, p.1) (left_negated x d m ∙ ap neg_ℤ h ∙ sym (right_negated n e y))
