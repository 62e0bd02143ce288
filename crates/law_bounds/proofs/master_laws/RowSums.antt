-- Rows with their prices as lists, and sums over them.
use Rattle.std.proofs.Common.{true≢false, ◌≡◌, ℕ, ℤ, zero, suc, arith, pos, neg_ℤ, ◌+ℤ◌, ◌*ℤ◌, ◌≤ℤ◌, ◌+◌, ◌<◌, true, List, [], ◌∷◌, length, refl, sym, ap, ◌∙◌}
use Rattle.std.proofs.lemmas.Int.{ints}
use Rattle.model_rosters.specs.declared.instance.Instance.{Instance}
use Rattle.model_rosters.specs.Trees.{Parts, IsDayTree}
use Rattle.model_rosters.specs.Arcs.{cost}
use Rattle.model_rosters.specs.Folds.{sum_z, Each}
use Rattle.law_bounds.specs.linear_programs.Sums.{total, dot}
use Rattle.law_bounds.specs.linear_programs.Program.{IsSound, IsPricedOut, unit_vector, reduced}
use Rattle.law_bounds.proofs.linear_programs.Totals.{total-same, dot-comm, dot-scale_right}
use Rattle.law_bounds.proofs.linear_programs.Values.{dot_unit}
use Rattle.law_bounds.specs.BestPrices.{artificial_cost}
use Rattle.law_bounds.specs.master_laws.Rows.{Sense, about, at_least, at_most, Row, number_at, HoldsAt}
use Rattle.law_bounds.specs.master_laws.Master.{missing, beyond, tree, missing_cost, beyond_cost, has_beyond, HasBeyond, column_of, program_of}

pub record RowPrice : Type 0 where
  pub row : Row
  pub price : ℤ

abbrev pub rows_in : List RowPrice → List Row
rows_in [] = []
rows_in (x ∷ xs) = x.row ∷ rows_in xs

abbrev pub price_at : List RowPrice → ℕ → ℤ
price_at [] r = pos 0
price_at (x ∷ xs) zero = x.price
price_at (x ∷ xs) (suc r) = price_at xs r

-- rows with the prices from place k on
abbrev pub priced : (ℕ → ℤ) → ℕ → List Row → List RowPrice
priced y k [] = []
priced y k (x ∷ rows) = record { row = x; price = y k } ∷ priced y (suc k) rows

-- the price of a row times a number of it
abbrev pub worth : (Row → ℤ) → RowPrice → ℤ
worth f x = x.price *ℤ f x.row

pub total-front : (n : ℕ) (f : ℕ → ℤ) → total (suc n) f ≡ f 0 +ℤ total n (λ i. f (suc i))
total-front zero f = omega (arith, ints)
total-front (suc n) f = omega (arith, ints, total-front n f)

pub listed_dot : (f : Row → ℤ) (xs : List RowPrice) → dot (length (rows_in xs)) (price_at xs) (number_at f (rows_in xs)) ≡ sum_z (worth f) xs
listed_dot f [] = refl
listed_dot f (x ∷ xs) = total-front (length (rows_in xs)) (λ i. price_at (x ∷ xs) i *ℤ number_at f (rows_in (x ∷ xs)) i) ∙ ap (λ (z : ℤ). x.price *ℤ f x.row +ℤ z) (listed_dot f xs)

priced_dot_from : (f : Row → ℤ) (y : ℕ → ℤ) (k : ℕ) (rows : List Row) → dot (length rows) (λ i. y (k + i)) (number_at f rows) ≡ sum_z (worth f) (priced y k rows)
priced_dot_from f y k [] = refl
priced_dot_from f y k (x ∷ rows) =
    total-front (length rows) (λ i. y (k + i) *ℤ number_at f (x ∷ rows) i)
    ∙ ap (λ (z : ℤ). y (k + 0) *ℤ f x +ℤ z) (total-same (length rows) _ _ (λ i b. ap (λ n. y n *ℤ number_at f rows i) (omega arith)) ∙ priced_dot_from f y (suc k) rows)
    ∙ ap (λ n. y n *ℤ f x +ℤ sum_z (worth f) (priced y (suc k) rows)) (omega arith)

pub priced_dot : (f : Row → ℤ) (y : ℕ → ℤ) (rows : List Row) → dot (length rows) y (number_at f rows) ≡ sum_z (worth f) (priced y 0 rows)
priced_dot f y rows = total-same (length rows) _ _ (λ i b. ap (λ n. y n *ℤ number_at f rows i) (omega arith)) ∙ priced_dot_from f y 0 rows

pub dot_less : (n r : ℕ) (y : ℕ → ℤ) → r < n → dot n y (λ j. neg_ℤ (unit_vector r j)) ≡ neg_ℤ (y r)
dot_less n r y h =
    total-same n _ _ (λ i b. ap (λ (z : ℤ). y i *ℤ z) (neg_one (unit_vector r i))) ∙ dot-scale_right n (neg_ℤ (pos 1)) y (unit_vector r)
    ∙ ap (λ (z : ℤ). neg_ℤ (pos 1) *ℤ z) (dot_unit n r y h) ∙ sym (neg_one (y r))
  where
    neg_one : (z : ℤ) → neg_ℤ z ≡ neg_ℤ (pos 1) *ℤ z
    neg_one z = omega (arith, ints)

-- ---- the master is sound
number_nonneg : (rows : List Row) (r : ℕ) → pos 0 ≤ℤ number_at (λ x. pos x.right) rows r
number_nonneg [] r = omega (arith, ints)
number_nonneg (x ∷ rows) zero = omega (arith, ints)
number_nonneg (x ∷ rows) (suc r) = number_nonneg rows r

pub master_sound : (i : Instance) (rows : List Row) → IsSound (program_of i rows)
master_sound i rows = record { right = λ r h. number_nonneg rows r; belongs = λ r h. h; units = λ r j h k. refl }

-- ---- what prices leave no column a negative reduced cost
-- the price of a row of this sense, over kappa, k being the cost of an artificial column
abbrev pub Good : ℕ → ℤ → Sense → ℤ → Type 0
Good k kappa (about under over) y = (neg_ℤ (kappa *ℤ pos over) ≤ℤ y) × (y ≤ℤ (kappa *ℤ pos under))
Good k kappa at_least y = (pos 0 ≤ℤ y) × (y ≤ℤ (kappa *ℤ pos k))
Good k kappa at_most y = y ≤ℤ pos 0

abbrev pub IsGood : ℕ → ℤ → RowPrice → Type 0
IsGood k kappa x = Good k kappa x.row.sense x.price

zero_right : (z : ℤ) → z *ℤ pos 0 ≡ pos 0
zero_right z = omega (arith, ints)

good_missing : (k : ℕ) (kappa : ℤ) (s : Sense) (y : ℤ) → Good k kappa s y → y ≤ℤ (kappa *ℤ pos (missing_cost k s))
good_missing k kappa (about under over) y h = h.1
good_missing k kappa at_least y h = h.1
good_missing k kappa at_most y h = rw (zero_right kappa) h

good_beyond : (k : ℕ) (kappa : ℤ) (s : Sense) (y : ℤ) → has_beyond s ≡ true → Good k kappa s y → neg_ℤ (kappa *ℤ pos (beyond_cost s)) ≤ℤ y
good_beyond k kappa (about under over) y e h = h.0
good_beyond k kappa at_least y e h = rw (zero_right kappa) (omega (arith, ints, h.0))
good_beyond k kappa at_most y e h = absurd (true≢false (sym e))

good_of : (k : ℕ) (kappa : ℤ) (s : Sense) (y : ℤ) → y ≤ℤ (kappa *ℤ pos (missing_cost k s)) → (has_beyond s ≡ true → neg_ℤ (kappa *ℤ pos (beyond_cost s)) ≤ℤ y) → Good k kappa s y
good_of k kappa (about under over) y a b = (b refl, a)
good_of k kappa at_least y a b = (rw (zero_right kappa) at (b refl), a)
good_of k kappa at_most y a b = rw (zero_right kappa) at a

at_missing : (k : ℕ) (kappa : ℤ) (xs : List RowPrice) (r : ℕ) → r < length (rows_in xs) → Each (IsGood k kappa) xs → price_at xs r ≤ℤ (kappa *ℤ number_at (λ x. pos (missing_cost k x.sense)) (rows_in xs) r)
at_missing k kappa [] r h e = absurd (omega arith)
at_missing k kappa (x ∷ xs) zero h e = good_missing k kappa x.row.sense x.price e.0
at_missing k kappa (x ∷ xs) (suc r) h e = at_missing k kappa xs r (omega arith) e.1

at_beyond : (k : ℕ) (kappa : ℤ) (xs : List RowPrice) (r : ℕ) → HoldsAt HasBeyond (rows_in xs) r → Each (IsGood k kappa) xs → (r < length (rows_in xs)) × (neg_ℤ (kappa *ℤ number_at (λ x. pos (beyond_cost x.sense)) (rows_in xs) r) ≤ℤ price_at xs r)
at_beyond k kappa [] r h e = absurd h
at_beyond k kappa (x ∷ xs) zero h e = (omega arith, good_beyond k kappa x.row.sense x.price h e.0)
at_beyond k kappa (x ∷ xs) (suc r) h e = let a = at_beyond k kappa xs r h e.1 in (omega (arith, a.0), a.1)

module _ (i : Instance) (kappa : ℤ) (xs : List RowPrice) (good : Each (IsGood (artificial_cost i) kappa) xs) where
  pub out_missing : (r : ℕ) → r < length (rows_in xs) → pos 0 ≤ℤ reduced (length (rows_in xs)) (price_at xs) kappa (column_of i (artificial_cost i) (rows_in xs) (missing r))
  out_missing r h =
      let a = at_missing (artificial_cost i) kappa xs r h good in
      let e = dot_unit (length (rows_in xs)) r (price_at xs) h in
      omega (arith, ints)

  pub out_beyond : (r : ℕ) → HoldsAt HasBeyond (rows_in xs) r → pos 0 ≤ℤ reduced (length (rows_in xs)) (price_at xs) kappa (column_of i (artificial_cost i) (rows_in xs) (beyond r))
  out_beyond r h =
      let a = at_beyond (artificial_cost i) kappa xs r h good in
      let e = dot_less (length (rows_in xs)) r (price_at xs) a.0 in
      omega (arith, ints, a.1)

  pub priced_out : ((t : Parts) → IsDayTree i.grammar t → sum_z (worth (λ x. pos (x.brings t))) xs ≤ℤ (kappa *ℤ pos (cost i.grammar t)))
      → IsPricedOut (program_of i (rows_in xs)) (price_at xs) kappa
  priced_out trees (missing r) h = out_missing r h
  priced_out trees (beyond r) h = out_beyond r h
  priced_out trees (tree t) h =
      let a = trees t h in
      let e = listed_dot (λ x. pos (x.brings t)) xs in
      omega (arith, ints)

each_good : (k : ℕ) (kappa : ℤ) (y : ℕ → ℤ) (j : ℕ) (rows : List Row)
    → ((r : ℕ) → r < length rows → y (j + r) ≤ℤ (kappa *ℤ number_at (λ x. pos (missing_cost k x.sense)) rows r))
    → ((r : ℕ) → HoldsAt HasBeyond rows r → r < length rows → neg_ℤ (kappa *ℤ number_at (λ x. pos (beyond_cost x.sense)) rows r) ≤ℤ y (j + r))
    → Each (IsGood k kappa) (priced y j rows)
each_good k kappa y j [] a b = tt
each_good k kappa y j (x ∷ rows) a b =
    let e : j + 0 ≡ j = omega arith in (
      good_of k kappa x.sense (y j) (rw e at (a 0 (omega arith))) (λ h. rw e at (b 0 h (omega arith))),
      each_good k kappa y (suc j) rows
          (λ r h. let e : j + suc r ≡ suc j + r = omega arith in rw e at (a (suc r) (omega arith)))
          (λ r h l. let e : j + suc r ≡ suc j + r = omega arith in rw e at (b (suc r) h (omega arith))),
    )

-- prices that leave no column a negative reduced cost are good
pub out_good : (i : Instance) (rows : List Row) (y : ℕ → ℤ) (kappa : ℤ) → IsPricedOut (program_of i rows) y kappa → Each (IsGood (artificial_cost i) kappa) (priced y 0 rows)
out_good i rows y kappa out = each_good (artificial_cost i) kappa y 0 rows
    (λ r h. let o = out (missing r) h in let e = dot_unit (length rows) r y h in let z : 0 + r ≡ r = omega arith in rw z (omega (arith, ints)))
    (λ r h l. let o = out (beyond r) h in let e = dot_less (length rows) r y l in let z : 0 + r ≡ r = omega arith in rw z (omega (arith, ints)))

pub out_tree : (i : Instance) (rows : List Row) (y : ℕ → ℤ) (kappa : ℤ) → IsPricedOut (program_of i rows) y kappa → (t : Parts) → IsDayTree i.grammar t → sum_z (worth (λ x. pos (x.brings t))) (priced y 0 rows) ≤ℤ (kappa *ℤ pos (cost i.grammar t))
out_tree i rows y kappa out t h =
    let o = out (tree t) h in
    let e = priced_dot (λ x. pos (x.brings t)) y rows in
    omega (arith, ints)
