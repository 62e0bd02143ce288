-- Lemmas on sums over the places below a bound.
use Rattle.std.proofs.Common.{ℕ, zero, suc, ◌≡◌, ◌≢◌, ◌+◌, ◌*◌, ◌<◌, ◌≤◌, ◌⊎◌, inl, inr, cond, eqb, Option, None, Some, refl, sym, subst, ◌∙◌, arith, add-one, ap}
use Rattle.std.proofs.lemmas.Bool.{cases_eq}
use Rattle.std.proofs.lemmas.Bool.Decides.{nat_tests}
use Rattle.model_shift_figures.specs.roster_changes.Totals.{total, paid}

pub total-more : (n : ℕ) (f : ℕ → ℕ) → total (n + 1) f ≡ total n f + f n
unfolding total
total-more n f = rw add-one refl

pub total-none : (f : ℕ → ℕ) → total 0 f ≡ 0
unfolding total
total-none f = refl

pub total-same : (n : ℕ) (f g : ℕ → ℕ) → ((j : ℕ) → j < n → f j ≡ g j) → total n f ≡ total n g
unfolding total
total-same zero f g same = refl
total-same (suc n) f g same =
    let before = total-same n f g (λ (j : ℕ) (below : j < n). same j (omega arith)) in
    let here = same n (omega arith) in
    omega (arith, before, here)

pub total-le : (n : ℕ) (f g : ℕ → ℕ) → ((j : ℕ) → j < n → f j ≤ g j) → total n f ≤ total n g
unfolding total
total-le zero f g least = omega arith
total-le (suc n) f g least =
    let before = total-le n f g (λ (j : ℕ) (below : j < n). least j (omega arith)) in
    let here = least n (omega arith) in
    omega (arith, before, here)

pub total-add : (n : ℕ) (f g : ℕ → ℕ) → total n (λ (j : ℕ). f j + g j) ≡ total n f + total n g
unfolding total
total-add zero f g = refl
total-add (suc n) f g = let before = total-add n f g in omega (arith, before)

-- a sum of one number
pub total-times : (n c : ℕ) → total n (λ (j : ℕ). c) ≡ n * c
unfolding total
total-times zero c = omega arith
total-times (suc n) c = let before = total-times n c in omega (arith, before)

-- the numbers, but 0 at a place
unfoldable pub without : (ℕ → ℕ) → ℕ → ℕ → ℕ
without q i k = cond (eqb k i) 0 (q k)

pub without-same : (q : ℕ → ℕ) (i : ℕ) → without q i i ≡ 0
unfolding without
without-same q i = grind (arith, nat_tests)

pub without-other : (q : ℕ → ℕ) (i k : ℕ) → k ≢ i → without q i k ≡ q k
unfolding without
without-other q i k apart = grind (arith, nat_tests)

pub total-without : (n : ℕ) (q : ℕ → ℕ) (i : ℕ) → i < n → total n q ≡ total n (without q i) + q i
unfolding total
total-without zero q i below = absurd (omega arith)
total-without (suc n) q i below = pick (cases_eq i n) (λ (under : i < n). total-without n q i under) where
  pick : ((i ≡ n) ⊎ (i ≢ n)) → (i < n → total n q ≡ total n (without q i) + q i)
      → total n q + q n ≡ (total n (without q i) + without q i n) + q i
  pick (inl here) before =
      let rest = total-same n q (without q i) (λ (j : ℕ) (under : j < n). let apart : j ≢ i = omega (arith, here) in sym (without-other q i j apart)) in
      let last : without q i n ≡ 0 = subst (λ (k : ℕ). without q i k ≡ 0) here (without-same q i) in
      let same : q i ≡ q n = ap q here in
      omega (arith, rest, last, same)
  pick (inr apart) before =
      let rest = before (omega (arith, apart)) in
      let other : n ≢ i = λ (h : n ≡ i). apart (sym h) in
      let last = without-other q i n other in
      omega (arith, rest, last)

-- what is paid for old shifts that are each taken once comes to no more than all prices
pub packed : (n a : ℕ) (q : ℕ → ℕ) (x : ℕ → Option ℕ)
    → ((at place : ℕ) → at < n → x at ≡ Some place → place < a)
    → ((at later place : ℕ) → at < later → later < n → x at ≡ Some place → x later ≢ Some place)
    → total n (λ (at : ℕ). paid q (x at)) ≤ total a q
unfolding total paid
packed zero a q x there once = omega arith
packed (suc n) a q x there once = pick (x n) refl (λ (r : ℕ → ℕ). packed n a r x (λ at place below. there at place (omega arith)) (λ at later place first below. once at later place first (omega arith))) where
  kept : (i : ℕ) → x n ≡ Some i → (at : ℕ) (c : Option ℕ) → x at ≡ c → at < n → paid q (x at) ≡ paid (without q i) (x at)
  kept i e at None f below = rw f refl
  kept i e at (Some k) f below =
      let apart : k ≢ i = λ (h : k ≡ i). once at n i below (omega arith) (f ∙ ap Some h) e in
      let other = without-other q i k apart in
      rw f (sym other)

  pick : (c : Option ℕ) → x n ≡ c → ((r : ℕ → ℕ) → total n (λ (at : ℕ). paid r (x at)) ≤ total a r)
      → total n (λ (at : ℕ). paid q (x at)) + paid q (x n) ≤ total a q
  pick None e before =
      let last : paid q (x n) ≡ 0 = rw e refl in
      let rest = before q in
      omega (arith, rest, last)
  pick (Some i) e before =
      let rest = before (without q i) in
      let last : paid q (x n) ≡ q i = rw e refl in
      let split = total-without a q i (there n i (omega arith) e) in
      let same = total-same n (λ (at : ℕ). paid q (x at)) (λ (at : ℕ). paid (without q i) (x at)) (λ (at : ℕ) (below : at < n). kept i e at (x at) refl below) in
      omega (arith, rest, last, split, same)

-- three sums of numbers that come to the same in each place
pub summed : (n u : ℕ) (p s g k : ℕ → ℕ) → ((j : ℕ) → j < n → (129 * p j + s j) + g j ≡ u + u * k j)
    → (129 * total n p + total n s) + total n g ≡ u * n + u * total n k
unfolding total
summed zero u p s g k each = omega arith
summed (suc n) u p s g k each =
    let before = summed n u p s g k (λ (j : ℕ) (below : j < n). each j (omega arith)) in
    let here = each n (omega arith) in
    omega (arith, before, here)

-- a loop's sum at its start and at its next place, for `grind`
pub ruleset totals = (total-more, total-none)
