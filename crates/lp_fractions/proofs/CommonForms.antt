-- Two fractions over their least common denominator.
use Rattle.std.proofs.Common.{◌≡◌, ℕ, ℤ, arith, pos, ◌+ℤ◌, ◌-ℤ◌, ◌*ℤ◌, neg_ℤ, ◌<ℤ◌, ◌≤ℤ◌, unsigned_abs, subst, sym, ap, ◌∙◌, Option, Some, None}
use Rattle.std.specs.Prelude.{IfNone}
use Rattle.std.specs.Int.{IsGcd}
use Rattle.std.proofs.lemmas.Int.{ints}
use Rattle.std.proofs.lemmas.Nat.Gcd.{same_from_IsGcd}
use Rattle.law_bounds.proofs.linear_programs.Ring.{dif, dif_up, dif_add, dif_mul, dif_same, mul_pos, pos_factor, same_factor, neg-*ℤ, *ℤ-assoc}
use Rattle.law_bounds.proofs.linear_programs.Solutions.{natural}
use borrow.Author.Differences.{up, down}
use Rattle.lp_fractions.specs.Range.{InRange}
use Rattle.lp_fractions.specs.Sum.{IsCommonForm, SumFits, DifferenceFits}
use Rattle.lp_fractions.proofs.LowestTerms.{gcd_positive}
use Rattle.lp_fractions.proofs.Products.{size_positive}

-- a fact stands whatever the option is
pub IfNone-any : {T : Type 0} (o : Option T) (P : Type 0) → P → IfNone o P
IfNone-any None P p = p
IfNone-any (Some x) P p = tt

-- ---- equations
cross' : (n n' v v' f f' u u' : ℕ) → (dif n n' *ℤ dif v v') *ℤ (dif f f' *ℤ dif u u') ≡ dif n n' *ℤ (dif u u' *ℤ (dif f f' *ℤ dif v v'))
cross' n n' v v' f f' u u' = simp dif_mul (dif_same _ _ _ _ (omega arith))

cross : (n v f u : ℤ) → (n *ℤ v) *ℤ (f *ℤ u) ≡ n *ℤ (u *ℤ (f *ℤ v))
cross n v f u = simp dif_up at (cross' (up n) (down n) (up v) (down v) (up f) (down f) (up u) (down u))

front' : (a a' r r' d d' e e' : ℕ) → dif a a' *ℤ (dif r r' *ℤ (dif d d' *ℤ dif e e')) ≡ (dif r r' *ℤ dif a a') *ℤ (dif d d' *ℤ dif e e')
front' a a' r r' d d' e e' = simp dif_mul (dif_same _ _ _ _ (omega arith))

front : (a r d e : ℤ) → a *ℤ (r *ℤ (d *ℤ e)) ≡ (r *ℤ a) *ℤ (d *ℤ e)
front a r d e = simp dif_up at (front' (up a) (down a) (up r) (down r) (up d) (down d) (up e) (down e))

parted' : (l l' r r' k k' d d' e e' : ℕ) → ((dif l l' +ℤ dif r r') *ℤ dif k k') *ℤ (dif d d' *ℤ dif e e') ≡ (dif l l' *ℤ dif d d') *ℤ (dif e e' *ℤ dif k k') +ℤ (dif r r' *ℤ dif e e') *ℤ (dif d d' *ℤ dif k k')
parted' l l' r r' k k' d d' e e' = simp (dif_add, dif_mul) (dif_same _ _ _ _ (omega arith))

parted : (l r k d e : ℤ) → ((l +ℤ r) *ℤ k) *ℤ (d *ℤ e) ≡ (l *ℤ d) *ℤ (e *ℤ k) +ℤ (r *ℤ e) *ℤ (d *ℤ k)
parted l r k d e = simp dif_up at (parted' (up l) (down l) (up r) (down r) (up k) (down k) (up d) (down d) (up e) (down e))

joined' : (n n' a a' e e' k k' m m' d d' : ℕ) → (dif n n' *ℤ dif a a') *ℤ (dif e e' *ℤ dif k k') +ℤ (dif m m' *ℤ dif a a') *ℤ (dif d d' *ℤ dif k k') ≡ dif a a' *ℤ ((dif n n' *ℤ dif e e' +ℤ dif m m' *ℤ dif d d') *ℤ dif k k')
joined' n n' a a' e e' k k' m m' d d' = simp (dif_add, dif_mul) (dif_same _ _ _ _ (omega arith))

joined : (n a e k m d : ℤ) → (n *ℤ a) *ℤ (e *ℤ k) +ℤ (m *ℤ a) *ℤ (d *ℤ k) ≡ a *ℤ ((n *ℤ e +ℤ m *ℤ d) *ℤ k)
joined n a e k m d = simp dif_up at (joined' (up n) (down n) (up a) (down a) (up e) (down e) (up k) (down k) (up m) (down m) (up d) (down d))

-- the sum over a common denominator is the sum
pub sum_ratio : (n d m e l r a x y : ℤ) → l *ℤ d ≡ n *ℤ a → r *ℤ e ≡ m *ℤ a → pos 0 <ℤ a → x *ℤ a ≡ (l +ℤ r) *ℤ y → x *ℤ (d *ℤ e) ≡ (n *ℤ e +ℤ m *ℤ d) *ℤ y
sum_ratio n d m e l r a x y hl hr ha h =
    same_factor a (x *ℤ (d *ℤ e)) ((n *ℤ e +ℤ m *ℤ d) *ℤ y) ha
    (front a x d e ∙ ap (λ (z : ℤ). z *ℤ (d *ℤ e)) h ∙ parted l r y d e ∙ ap (λ (z : ℤ). z *ℤ (e *ℤ y) +ℤ (r *ℤ e) *ℤ (d *ℤ y)) hl
    ∙ ap (λ (z : ℤ). (n *ℤ a) *ℤ (e *ℤ y) +ℤ z *ℤ (d *ℤ y)) hr ∙ joined n a e y m d)

-- the difference over a common denominator is the difference
pub difference_ratio : (n d m e l r a x y : ℤ) → l *ℤ d ≡ n *ℤ a → r *ℤ e ≡ m *ℤ a → pos 0 <ℤ a → x *ℤ a ≡ (l -ℤ r) *ℤ y → x *ℤ (d *ℤ e) ≡ (n *ℤ e -ℤ m *ℤ d) *ℤ y
difference_ratio n d m e l r a x y hl hr ha h =
    sum_ratio n d (neg_ℤ m) e l (neg_ℤ r) a x y hl (neg-*ℤ r e ∙ ap neg_ℤ hr ∙ sym (neg-*ℤ m a)) ha h
    ∙ ap (λ (z : ℤ). (n *ℤ e +ℤ z) *ℤ y) (neg-*ℤ m d)

pub factor_positive : (d e f : ℤ) → pos 0 <ℤ e → IsGcd (unsigned_abs d) (unsigned_abs e) (unsigned_abs f) → pos 0 ≤ℤ f → pos 0 <ℤ f
factor_positive d e f he h s = let p = gcd_positive _ _ _ h (size_positive e he) in omega (arith, ints)

module _ (n d m e f u v : ℤ) (hd : pos 0 <ℤ d) (he : pos 0 <ℤ e) (h : IsGcd (unsigned_abs d) (unsigned_abs e) (unsigned_abs f)) (s : pos 0 ≤ℤ f) (du : f *ℤ u ≡ d) (ev : f *ℤ v ≡ e) where
  pub form_is : (l r a : ℤ) → l ≡ n *ℤ v → r ≡ m *ℤ u → a ≡ u *ℤ e → InRange l → InRange r → InRange a → IsCommonForm n d m e l r a
  form_is l r a el er ea rl rr ra = record {
    factor = unsigned_abs f;
    d_part = u;
    e_part = v;
    factor_is = h;
    d_part_is = ap (λ (z : ℤ). z *ℤ u) (natural f s) ∙ du;
    e_part_is = ap (λ (z : ℤ). z *ℤ v) (natural f s) ∙ ev;
    left_is = el;
    right_is = er;
    den_is = ea;
    left_range = rl;
    right_range = rr;
    den_range = ra;
  }

  -- the common form has these numbers and no other
  pub form_only : (l r a : ℤ) → IsCommonForm n d m e l r a → (l ≡ n *ℤ v) × (r ≡ m *ℤ u) × (a ≡ u *ℤ e)
  form_only l r a form =
      let fp = factor_positive d e f he h s in
      let same : pos form.factor ≡ f = ap pos (same_from_IsGcd (unsigned_abs d) (unsigned_abs e) form.factor (unsigned_abs f) form.factor_is h) ∙ natural f s in
      let eu : form.d_part ≡ u = same_factor f form.d_part u fp (ap (λ (z : ℤ). z *ℤ form.d_part) (sym same) ∙ form.d_part_is ∙ sym du) in
      let ew : form.e_part ≡ v = same_factor f form.e_part v fp (ap (λ (z : ℤ). z *ℤ form.e_part) (sym same) ∙ form.e_part_is ∙ sym ev) in
      (form.left_is ∙ ap (λ (z : ℤ). n *ℤ z) ew, form.right_is ∙ ap (λ (z : ℤ). m *ℤ z) eu, form.den_is ∙ ap (λ (z : ℤ). z *ℤ e) eu)

-- two common forms are the same
pub form_same : (n d m e l r a l' r' a' : ℤ) → pos 0 <ℤ d → pos 0 <ℤ e → IsCommonForm n d m e l r a → IsCommonForm n d m e l' r' a' → (l' ≡ l) × (r' ≡ r) × (a' ≡ a)
form_same n d m e l r a l' r' a' hd he form other =
    let o = form_only n d m e (pos form.factor) form.d_part form.e_part hd he form.factor_is (omega (arith, ints)) form.d_part_is form.e_part_is l' r' a' other in
    (o.0 ∙ sym form.left_is, o.1 ∙ sym form.right_is, o.2 ∙ sym form.den_is)

module _ (n d m e l r a : ℤ) (hd : pos 0 <ℤ d) (he : pos 0 <ℤ e) (form : IsCommonForm n d m e l r a) where
  pub den_positive : pos 0 <ℤ a
  den_positive =
      let fp = factor_positive d e (pos form.factor) he form.factor_is (omega (arith, ints)) in
      let up = pos_factor (pos form.factor) form.d_part fp (let k = form.d_part_is in omega (arith, ints)) in
      let p = mul_pos form.d_part e up he in
      let k = form.den_is in omega (arith, ints)

  pub left_ratio : l *ℤ d ≡ n *ℤ a
  left_ratio =
      ap (λ (z : ℤ). z *ℤ d) form.left_is ∙ ap (λ (z : ℤ). (n *ℤ form.e_part) *ℤ z) (sym form.d_part_is) ∙ cross n form.e_part (pos form.factor) form.d_part
      ∙ ap (λ (z : ℤ). n *ℤ (form.d_part *ℤ z)) form.e_part_is ∙ ap (λ (z : ℤ). n *ℤ z) (sym form.den_is)

  pub right_ratio : r *ℤ e ≡ m *ℤ a
  right_ratio = ap (λ (z : ℤ). z *ℤ e) form.right_is ∙ *ℤ-assoc m form.d_part e ∙ ap (λ (z : ℤ). m *ℤ z) (sym form.den_is)

-- a form whose sum, or difference, is out of range is the only one
pub sum_only : (n d m e l r a : ℤ) → pos 0 <ℤ d → pos 0 <ℤ e → IsCommonForm n d m e l r a → (InRange (l +ℤ r) → ⊥) → SumFits n d m e → ⊥
sum_only n d m e l r a hd he form wide s =
    let o = form_same n d m e l r a s.left s.right s.den hd he form s.form in
    wide (subst (λ (z : ℤ). InRange (l +ℤ z)) o.1 (subst (λ (z : ℤ). InRange (z +ℤ s.right)) o.0 s.sum))

pub difference_only : (n d m e l r a : ℤ) → pos 0 <ℤ d → pos 0 <ℤ e → IsCommonForm n d m e l r a → (InRange (l -ℤ r) → ⊥) → DifferenceFits n d m e → ⊥
difference_only n d m e l r a hd he form wide s =
    let o = form_same n d m e l r a s.left s.right s.den hd he form s.form in
    wide (subst (λ (z : ℤ). InRange (l -ℤ z)) o.1 (subst (λ (z : ℤ). InRange (z -ℤ s.right)) o.0 s.difference))
