-- A column of negative reduced cost has an entry above 0, since no column costs less than 0.
use Rattle.std.proofs.Common.{◌≡◌, ℕ, ℤ, ◌*◌, ◌<◌, ◌≤◌, arith, pos, negsuc, suc, zero, ◌+ℤ◌, ◌*ℤ◌, ◌≤ℤ◌, ◌<ℤ◌, unsigned_abs, sym, ap, ◌∙◌, ◌⊎◌, inl, inr, refl}
use Rattle.std.proofs.lemmas.Int.{ints}
use Rattle.std.proofs.lemmas.Bool.{cases_eq}
use Rattle.law_bounds.specs.linear_programs.Sums.{dot}
use Rattle.law_bounds.specs.linear_programs.Program.{Column, Program, reduced}
use Rattle.law_bounds.specs.linear_programs.Solution.{brought}
use Rattle.law_bounds.specs.linear_programs.Tableau.{Tableau, entry, on_basis}
use Rattle.law_bounds.proofs.linear_programs.TiedTableau.{IsTied}
use Rattle.law_bounds.proofs.linear_programs.Ring.{mul_nonneg}
use Rattle.law_bounds.proofs.linear_programs.Orders.{le_factor}
use Rattle.law_bounds.proofs.linear_programs.Totals.{dot-add_right, dot-scale_right, dot-zero_right, dot-same_right}
use Rattle.law_bounds.proofs.linear_programs.Solutions.{units, others, pivot_size, pivot_size_is, sizes_positive, row_seen, units_positive, others-times}

below_last : (n : ℕ) (f : ℕ → ℤ) → ((r : ℕ) → r < n → f r ≤ℤ pos 0) → f n ≤ℤ pos 0 → (r : ℕ) → r < suc n → f r ≤ℤ pos 0
below_last n f before last r h = by (cases_eq r n)
  where
    by : (r ≡ n) ⊎ (r ≡ n → ⊥) → f r ≤ℤ pos 0
    by (inl e) = rw e last
    by (inr e) = before r (omega arith)

-- some number of the first n is above 0, or none is
some_above : (n : ℕ) (f : ℕ → ℤ) → ((r : ℕ) × (r < n) × (pos 0 <ℤ f r)) ⊎ ((r : ℕ) → r < n → f r ≤ℤ pos 0)
some_above zero f = inr (λ r h. absurd (omega arith))
some_above (suc n) f = by (some_above n f) (f n) refl
  where
    by : ((r : ℕ) × (r < n) × (pos 0 <ℤ f r)) ⊎ ((r : ℕ) → r < n → f r ≤ℤ pos 0) → (z : ℤ) → f n ≡ z → ((r : ℕ) × (r < suc n) × (pos 0 <ℤ f r)) ⊎ ((r : ℕ) → r < suc n → f r ≤ℤ pos 0)
    by (inl x) z e = inl (x.0, omega arith, x.2)
    by (inr h) (pos (suc k)) e = inl (n, omega arith, omega (arith, ints))
    by (inr h) (pos zero) e = inr (below_last n f h (omega (arith, ints)))
    by (inr h) (negsuc k) e = inr (below_last n f h (omega (arith, ints)))

-- a number that is not above 0, and its size
against : (e : ℕ) (x : ℤ) → x ≤ℤ pos 0 → pos e *ℤ x +ℤ pos (unsigned_abs x * e) ≡ pos 0
against e (pos zero) h = omega (arith, ints)
against e (pos (suc n)) h = absurd (omega (arith, ints))
against e (negsuc n) h = omega (arith, ints)

module _ {K : Type 0} (p : Program K) (t : Tableau K) (tied : IsTied p t) (costs : (k : K) → p.belongs k → pos 0 ≤ℤ (p.column k).cost) (c : Column) where
  size : ℕ
  size = units (pivot_size p t tied) p.rows

  weight : ℕ → ℕ
  weight r = unsigned_abs (entry p.rows t r c) * others (pivot_size p t tied) p.rows r

  basics : ℕ → ℕ → ℤ
  basics n = brought p.column (on_basis t.basis weight n)

  -- the column and basic columns against it
  mixed : ℕ → ℤ
  mixed i = pos size *ℤ c.entry i +ℤ basics p.rows i

  row_zero : ((r : ℕ) → r < p.rows → entry p.rows t r c ≤ℤ pos 0) → (r : ℕ) → r < p.rows → dot p.rows (t.row r) mixed ≡ pos 0
  unfolding size weight basics mixed
  row_zero none r h =
      let seen = row_seen p.column p.rows t.row t.basis weight tied.apart p.rows r h (omega arith) in
      let diagonal = pivot_size_is p t tied r h in
      let whole = others-times (pivot_size p t tied) p.rows r h in
      let both : unsigned_abs (entry p.rows t r c) * others (pivot_size p t tied) p.rows r * pivot_size p t tied r ≡ unsigned_abs (entry p.rows t r c) * units (pivot_size p t tied) p.rows =
      omega (arith, ap (λ n. unsigned_abs (entry p.rows t r c) * n) whole) in
      dot-add_right p.rows (t.row r) (λ i. pos (units (pivot_size p t tied) p.rows) *ℤ c.entry i) (brought p.column (on_basis t.basis weight p.rows))
      ∙ ap (λ (z : ℤ). z +ℤ dot p.rows (t.row r) (brought p.column (on_basis t.basis weight p.rows))) (dot-scale_right p.rows (pos (units (pivot_size p t tied) p.rows)) (t.row r) c.entry)
      ∙ ap (λ (z : ℤ). pos (units (pivot_size p t tied) p.rows) *ℤ entry p.rows t r c +ℤ z) (seen ∙ ap (λ (z : ℤ). pos (weight r) *ℤ z) (sym diagonal) ∙ ap pos both)
      ∙ against (units (pivot_size p t tied) p.rows) (entry p.rows t r c) (none r h)

  -- the prices of basic columns are not negative
  basics_cost : (n : ℕ) → n ≤ p.rows → pos 0 ≤ℤ dot p.rows t.y (basics n)
  unfolding basics
  basics_cost zero h = let z = dot-zero_right p.rows t.y in omega (arith, ints)
  basics_cost (suc n) h =
      let rest = basics_cost n (omega arith) in
      let inside : n < p.rows = omega arith in
      let cost = mul_nonneg t.kappa (p.column (t.basis n)).cost (let k = tied.kappa in omega (arith, ints)) (costs (t.basis n) (tied.belongs n inside)) in
      let price : pos 0 ≤ℤ dot p.rows t.y (p.column (t.basis n)).entry = let tight = tied.tight n inside in omega (arith, ints) in
      let one = mul_nonneg (pos (weight n)) (dot p.rows t.y (p.column (t.basis n)).entry) (omega (arith, ints)) price in
      let sum = dot-add_right p.rows t.y (λ i. pos (weight n) *ℤ (p.column (t.basis n)).entry i) (brought p.column (on_basis t.basis weight n)) in
      let scaled = dot-scale_right p.rows (pos (weight n)) t.y (p.column (t.basis n)).entry in
      omega (arith, ints)

  not_cheaper : ((r : ℕ) → r < p.rows → entry p.rows t r c ≤ℤ pos 0) → pos 0 ≤ℤ c.cost → pos 0 ≤ℤ reduced p.rows t.y t.kappa c
  unfolding size basics mixed
  not_cheaper none cost =
      let e = units (pivot_size p t tied) p.rows in
      let vanishes = tied.kernel mixed (row_zero none) in
      let nothing = dot-same_right p.rows t.y mixed (λ i. pos 0) vanishes ∙ dot-zero_right p.rows t.y in
      let sum = dot-add_right p.rows t.y (λ i. pos e *ℤ c.entry i) (brought p.column (on_basis t.basis weight p.rows)) in
      let scaled = dot-scale_right p.rows (pos e) t.y c.entry in
      let basic = basics_cost p.rows (omega arith) in
      let positive : pos 0 <ℤ pos e = let k = units_positive (pivot_size p t tied) p.rows (sizes_positive p t tied) in omega (arith, ints) in
      let below = le_factor (pos e) (dot p.rows t.y c.entry) (pos 0) positive (omega (arith, ints)) in
      let own = mul_nonneg t.kappa c.cost (let k = tied.kappa in omega (arith, ints)) cost in
      omega (arith, ints)

  pub has_entry : pos 0 ≤ℤ c.cost → reduced p.rows t.y t.kappa c <ℤ pos 0 → (r : ℕ) × (r < p.rows) × (pos 0 <ℤ entry p.rows t r c)
  has_entry cost cheaper = by (some_above p.rows (λ r. entry p.rows t r c))
    where
      by : ((r : ℕ) × (r < p.rows) × (pos 0 <ℤ entry p.rows t r c)) ⊎ ((r : ℕ) → r < p.rows → entry p.rows t r c ≤ℤ pos 0) → (r : ℕ) × (r < p.rows) × (pos 0 <ℤ entry p.rows t r c)
      by (inl x) = x
      by (inr none) = let h = not_cheaper none cost in absurd (omega (arith, ints))
