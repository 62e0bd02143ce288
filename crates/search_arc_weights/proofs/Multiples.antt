-- Least common multiples.
use Rattle.std.proofs.Common.{◌≡◌, ℕ, zero, suc, arith, ◌*◌, ◌/◌, ◌+◌, ◌^◌, ◌<◌, ◌≤◌, List, ◌∷◌, drop, sym, subst}
use Rattle.std.specs.Int.{IsGcd, ◌∣◌}
use Rattle.std.proofs.lemmas.Nat.Gcd.{IsGcd-swap, dvd_trans, le_of_dvd}
use native.Mathlib.Nat.{one-dvd}
use Rattle.lp_fractions.proofs.LowestTerms.{gcd_positive}
use Rattle.lp_rounded_prices.proofs.Denominators.{part_some, lcm_old, lcm_new, lcm_into}
use Rattle.search_node_columns.specs.declared.weights.Weight.{Weight}
use Rattle.search_arc_weights.specs.Denominators.{den_of, IsCommonMultiple, IsPast, AreOver, AreAllPast}
use Rattle.search_arc_weights.specs.Loops.{IsCommonBefore}

product_some : (x y : ℕ) → 0 < x → 1 ≤ y → 1 ≤ x * y
product_some zero y h k = absurd (omega arith)
product_some (suc x) zero h k = absurd (omega arith)
product_some (suc x) (suc y) h k = omega arith

module _ (d n c : ℕ) (d_some : 1 ≤ d) (n_some : 1 ≤ n) (gcd : IsGcd n d c) where
  pub gcd_some : 0 < c
  gcd_some = gcd_positive n d c gcd d_some

  multiple_some : 1 ≤ n / c * d
  multiple_some = product_some (n / c) d (part_some d n c (IsGcd-swap n d c gcd) n_some) d_some

  pub past_at : 2 ^ 100 < n / c * d → IsPast d n
  past_at large k some h e = let l = le_of_dvd some (lcm_into n d c gcd d_some k e h) in omega (arith, l)

  pub multiple_at : n / c * d ≤ 2 ^ 100 → IsCommonMultiple d n (n / c * d)
  multiple_at few = record {
    some = multiple_some;
    few = few;
    first = lcm_new n d c gcd d_some;
    second = lcm_old n d c gcd d_some;
    least = λ k h e. lcm_into n d c gcd d_some k e h;
  }

pub first_multiple : (weights : List Weight) → IsCommonBefore weights 0 1
first_multiple weights = record { some = omega arith; few = omega arith; whole = λ m h k. k; least = λ m h. (one-dvd m, h) }

module _ (weights : List Weight) (k d n : ℕ) (x : Weight) (at : drop k weights ≡ x ∷ drop (k + 1) weights) (is : n ≡ den_of x) (before : IsCommonBefore weights k d) where
  pub next_multiple : (m : ℕ) → IsCommonMultiple d n m → IsCommonBefore weights (k + 1) m
  next_multiple m h = record {
    some = h.some;
    few = h.few;
    whole = λ j e r. before.whole j (dvd_trans d h.first e) (subst (λ (ys : List Weight). AreOver j ys) (sym at) (subst (λ (i : ℕ). i ∣ j) is (dvd_trans n h.second e), r));
    least = λ j e.
        let b = before.least j e in
        let r : AreOver j (x ∷ drop (k + 1) weights) = subst (λ (ys : List Weight). AreOver j ys) at b.1 in
        (h.least j b.0 (subst (λ (i : ℕ). i ∣ j) (sym is) r.0), r.1);
  }

  pub past_multiple : IsPast d n → AreAllPast weights
  past_multiple past j some e =
      let b = before.least j e in
      let r : AreOver j (x ∷ drop (k + 1) weights) = subst (λ (ys : List Weight). AreOver j ys) at b.1 in
      past j some b.0 (subst (λ (i : ℕ). i ∣ j) (sym is) r.0)
