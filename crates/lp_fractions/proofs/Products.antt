-- Products of fractions.
use Rattle.std.proofs.Common.{◌≡◌, ℕ, ℤ, ◌*◌, ◌<◌, arith, pos, ◌*ℤ◌, ◌<ℤ◌, unsigned_abs, sym, ap, ◌∙◌}
use Rattle.std.proofs.lemmas.Int.{ints, unsigned_abs-mul}
use Rattle.std.proofs.lemmas.Nat.{mul-le}
use Rattle.law_bounds.proofs.linear_programs.Ring.{dif, dif_up, dif_mul, dif_same, mul_pos}
use borrow.Author.Differences.{up, down}
use lib.IntN.{*ℤ_comm}
use Rattle.lp_fractions.specs.Range.{InRange}
use Rattle.lp_fractions.specs.Fraction.{IsFraction}
use Rattle.lp_fractions.proofs.CoprimeProducts.{crosswise, only_form}

swap4' : (a a' b b' c c' d d' : ℕ) → (dif a a' *ℤ dif b b') *ℤ (dif c c' *ℤ dif d d') ≡ (dif a a' *ℤ dif c c') *ℤ (dif b b' *ℤ dif d d')
swap4' a a' b b' c c' d d' = simp dif_mul (dif_same _ _ _ _ (omega arith))

swap4 : (a b c d : ℤ) → (a *ℤ b) *ℤ (c *ℤ d) ≡ (a *ℤ c) *ℤ (b *ℤ d)
swap4 a b c d = simp dif_up at (swap4' (up a) (down a) (up b) (down b) (up c) (down c) (up d) (down d))

sizes : (a b c d : ℤ) → a *ℤ b ≡ c *ℤ d → unsigned_abs a * unsigned_abs b ≡ unsigned_abs c * unsigned_abs d
sizes a b c d e = sym (unsigned_abs-mul a b) ∙ ap unsigned_abs e ∙ unsigned_abs-mul c d

pub size_positive : (z : ℤ) → pos 0 <ℤ z → 0 < unsigned_abs z
size_positive z h = omega (arith, ints)

module _ (n d m e l c r b : ℤ) (first : IsFraction n d) (second : IsFraction m e) (left : IsFraction l c) (right : IsFraction r b) (le : l *ℤ e ≡ n *ℤ c) (re : r *ℤ d ≡ m *ℤ b) where
  pub product_ratio : (l *ℤ r) *ℤ (d *ℤ e) ≡ (n *ℤ m) *ℤ (c *ℤ b)
  product_ratio =
      ap (λ (z : ℤ). (l *ℤ r) *ℤ z) (*ℤ_comm d e) ∙ swap4 l r e d ∙ ap (λ (z : ℤ). z *ℤ (r *ℤ d)) le ∙ ap (λ (z : ℤ). (n *ℤ c) *ℤ z) re ∙ swap4 n c m b

  pub product_sound : InRange (l *ℤ r) → InRange (c *ℤ b) → IsFraction (l *ℤ r) (c *ℤ b)
  product_sound x y = record {
    num_range = x;
    den_range = y;
    positive = mul_pos c b left.positive right.positive;
    reduced = rw (unsigned_abs-mul l r, unsigned_abs-mul c b) (crosswise (unsigned_abs n) (unsigned_abs d) (unsigned_abs m) (unsigned_abs e) _ _ _ _ first.reduced second.reduced left.reduced right.reduced (sizes l e n c le) (sizes r d m b re));
  }

  pub product_only : (x y : ℤ) → IsFraction x y → x *ℤ (d *ℤ e) ≡ (n *ℤ m) *ℤ y → InRange (l *ℤ r) × InRange (c *ℤ b)
  product_only x y h q =
      let sq : unsigned_abs x * (unsigned_abs d * unsigned_abs e) ≡ (unsigned_abs n * unsigned_abs m) * unsigned_abs y =
      ap (λ k. unsigned_abs x * k) (sym (unsigned_abs-mul d e)) ∙ sizes x (d *ℤ e) (n *ℤ m) y q ∙ ap (λ k. k * unsigned_abs y) (unsigned_abs-mul n m) in
      let two = λ (u v : ℤ) (hu : pos 0 <ℤ u) (hv : pos 0 <ℤ v). mul-le 1 1 (unsigned_abs u) (unsigned_abs v) (size_positive u hu) (size_positive v hv) in
      let f = only_form (unsigned_abs n) (unsigned_abs d) (unsigned_abs m) (unsigned_abs e) (unsigned_abs l) (unsigned_abs c) (unsigned_abs r) (unsigned_abs b) first.reduced second.reduced left.reduced right.reduced (sizes l e n c le) (sizes r d m b re)
      (unsigned_abs x) (unsigned_abs y) h.reduced (size_positive y h.positive) (two c b left.positive right.positive) (two d e first.positive second.positive) sq in
      (omega (arith, unsigned_abs-mul l r, f.0, h.num_range), omega (arith, unsigned_abs-mul c b, f.1, h.den_range))
