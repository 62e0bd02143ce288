-- The least of a growing front of sums.
use Rattle.std.proofs.Common.{◌≡◌, ℕ, ℤ, ◌+◌, ◌<◌, ◌≤◌, ◌≤ℤ◌, ◌<ℤ◌, arith, List, subst, sym, inl, inr, ◌⊎◌}
use Rattle.std.proofs.lemmas.Int.{ints}
use Rattle.std.proofs.lemmas.Bool.{cases_lt}
use Rattle.check_lanes.specs.LeastSum.{sum_at, IsLeastSum}

module _ (x y : List ℤ) where
  same_least : (k : ℕ) → sum_at x y k ≤ℤ sum_at x y k
  same_least k = omega (arith, ints)

  pub first_sum : (v : ℤ) → v ≡ sum_at x y 0 → IsLeastSum x y 1 v 0
  first_sum v e = record {
    within = omega arith;
    reached = e;
    least = λ k l. let z : 0 ≡ k = omega arith in subst (λ k. v ≤ℤ sum_at x y k) z (subst (λ u. u ≤ℤ sum_at x y 0) (sym e) (same_least 0));
    first = λ k l. absurd (omega arith);
  }

  module _ (n : ℕ) (v : ℤ) (j : ℕ) (h : IsLeastSum x y n v j) where
    -- the next sum is not less
    pub sum_kept : v ≤ℤ sum_at x y n → IsLeastSum x y (n + 1) v j
    sum_kept le = record {
      within = omega (arith, h.within);
      reached = h.reached;
      least = λ k l. pick k l (cases_lt k n);
      first = h.first;
    }
      where
        pick : (k : ℕ) → k < n + 1 → (k < n) ⊎ (n ≤ k) → v ≤ℤ sum_at x y k
        pick k l (inl s) = h.least k s
        pick k l (inr g) = let z : n ≡ k = omega arith in subst (λ k. v ≤ℤ sum_at x y k) z le

    -- the next sum is less
    pub sum_taken : (w : ℤ) → w ≡ sum_at x y n → w <ℤ v → IsLeastSum x y (n + 1) w n
    sum_taken w e lt = record {
      within = omega arith;
      reached = e;
      least = λ k l. pick k l (cases_lt k n);
      first = λ k l. let a = h.least k l in omega (arith, ints);
    }
      where
        pick : (k : ℕ) → k < n + 1 → (k < n) ⊎ (n ≤ k) → w ≤ℤ sum_at x y k
        pick k l (inl s) = let a = h.least k s in omega (arith, ints)
        pick k l (inr g) = let z : n ≡ k = omega arith in subst (λ k. w ≤ℤ sum_at x y k) z (subst (λ u. u ≤ℤ sum_at x y n) (sym e) (same_least n))
