-- The solution of a tied tableau: it meets the rows, its cost is that of the prices, and it is basic.
use Rattle.std.proofs.Common.{◌≡◌, ℕ, ℤ, Bool, true, false, ◌+◌, ◌*◌, ◌<◌, ◌≤◌, arith, pos, negsuc, suc, zero, ◌+ℤ◌, ◌-ℤ◌, ◌*ℤ◌, ◌≤ℤ◌, ◌<ℤ◌, unsigned_abs, sym, refl, ap, ◌∙◌, ◌≢◌, ◌⊎◌, inl, inr, List, [], ◌∷◌, cond, subst}
use Rattle.std.specs.Prelude.{nat_eq}
use Rattle.std.proofs.lemmas.Int.{ints}
use Rattle.std.proofs.lemmas.Bool.{cases_eq, eq-eqb, ne_eqb}
use Rattle.std.proofs.lemmas.Nat.{mul-le}
use lib.IntN.{*ℤ_comm}
use Rattle.law_bounds.specs.linear_programs.Sums.{total, dot}
use Rattle.law_bounds.specs.linear_programs.Program.{Column, Program, reduced, IsPricedOut}
use Rattle.law_bounds.specs.linear_programs.Solution.{Weighted, Each, weighted_sum, brought, cost_of, IsSolution, IsValue, Uses, weight_where, IsBasic}
use Rattle.law_bounds.specs.linear_programs.Tableau.{Tableau, entry, on_basis, IsTableauSolution}
use Rattle.law_bounds.proofs.linear_programs.TiedTableau.{IsTied}
use Rattle.law_bounds.proofs.linear_programs.Ring.{*ℤ-assoc, *ℤ-+ℤ, *ℤ--ℤ, same_factor}
use Rattle.law_bounds.proofs.linear_programs.Totals.{total-same, total-zero, total-add, total-scale, dot-add_right, dot-scale_right, dot-zero_right, dot-same_right}
use Rattle.law_bounds.proofs.linear_programs.Duality.{weak_duality, swapped}

-- a natural for a whole number that is not negative
pub natural : (z : ℤ) → pos 0 ≤ℤ z → pos (unsigned_abs z) ≡ z
natural (pos n) h = refl
natural (negsuc n) h = absurd (omega (arith, ints))

-- ---- the common denominator e 0 * .. * e (n - 1), and that without e r
abbrev pub units : (ℕ → ℕ) → ℕ → ℕ
units e zero = 1
units e (suc n) = e n * units e n

abbrev pub others : (ℕ → ℕ) → ℕ → ℕ → ℕ
others e zero r = 1
others e (suc n) r = cond (nat_eq r n) (units e n) (e n * others e n r)

pub units_positive : (e : ℕ → ℕ) (n : ℕ) → ((r : ℕ) → r < n → 0 < e r) → 0 < units e n
units_positive e zero h = omega arith
units_positive e (suc n) h =
    let a = h n (omega arith) in
    let b = units_positive e n (λ r k. h r (omega arith)) in
    omega (arith, mul-le 1 1 (e n) (units e n) a b)

pub others-times : (e : ℕ → ℕ) (n r : ℕ) → r < n → others e n r * e r ≡ units e n
others-times e zero r h = absurd (omega arith)
others-times e (suc n) r h = by (λ l. others-times e n r l) (cases_eq r n)
  where
    by : (r < n → others e n r * e r ≡ units e n) → (r ≡ n) ⊎ (r ≡ n → ⊥) → others e (suc n) r * e r ≡ units e (suc n)
    by rec (inl q) = rw (q, eq-eqb n n refl) (omega arith)
    by rec (inr q) = let k = rec (omega arith) in rw (ne_eqb r n q) (omega (arith, ap (λ x. e n * x) k))

-- ---- what the basic columns bring to a row
module _ {K : Type 0} (column : K → Column) (m : ℕ) (row : ℕ → ℕ → ℤ) (basis : ℕ → K) (w : ℕ → ℕ) (apart : (r s : ℕ) → r < m → s < m → r ≢ s → dot m (row r) (column (basis s)).entry ≡ pos 0) where
  row_of_next : (n r : ℕ) → dot m (row r) (brought column (on_basis basis w (suc n))) ≡ pos (w n) *ℤ dot m (row r) (column (basis n)).entry +ℤ dot m (row r) (brought column (on_basis basis w n))
  row_of_next n r =
      dot-add_right m (row r) (λ i. pos (w n) *ℤ (column (basis n)).entry i) (brought column (on_basis basis w n))
      ∙ ap (λ (z : ℤ). z +ℤ dot m (row r) (brought column (on_basis basis w n))) (dot-scale_right m (pos (w n)) (row r) (column (basis n)).entry)

  -- a row past n sees nothing
  row_past : (n r : ℕ) → n ≤ r → r < m → dot m (row r) (brought column (on_basis basis w n)) ≡ pos 0
  row_past zero r h k = dot-zero_right m (row r)
  row_past (suc n) r h k =
      let a = row_past n r (omega arith) k in
      let d = apart r n k (omega arith) (λ q. omega arith) in
      row_of_next n r ∙ ap (λ (z : ℤ). pos (w n) *ℤ z +ℤ dot m (row r) (brought column (on_basis basis w n))) d ∙ ap (λ (z : ℤ). pos (w n) *ℤ pos 0 +ℤ z) a ∙ omega (arith, ints)

  -- a row before n sees its own column
  pub row_seen : (n r : ℕ) → r < n → n ≤ m → dot m (row r) (brought column (on_basis basis w n)) ≡ pos (w r) *ℤ dot m (row r) (column (basis r)).entry
  row_seen zero r h k = absurd (omega arith)
  row_seen (suc n) r h k = by (λ l. row_seen n r l (omega arith)) (cases_eq r n)
    where
      by : (r < n → dot m (row r) (brought column (on_basis basis w n)) ≡ pos (w r) *ℤ dot m (row r) (column (basis r)).entry) → (r ≡ n) ⊎ (r ≡ n → ⊥) → dot m (row r) (brought column (on_basis basis w (suc n))) ≡ pos (w r) *ℤ dot m (row r) (column (basis r)).entry
      by rec (inl q) =
          rw q (row_of_next n n ∙ ap (λ (z : ℤ). pos (w n) *ℤ dot m (row n) (column (basis n)).entry +ℤ z) (row_past n n (omega arith) k) ∙ omega (arith, ints))
      by rec (inr q) =
          row_of_next n r ∙ ap (λ (z : ℤ). pos (w n) *ℤ z +ℤ dot m (row r) (brought column (on_basis basis w n))) (apart r n (omega arith) k q)
          ∙ ap (λ (z : ℤ). pos (w n) *ℤ pos 0 +ℤ z) (rec (omega arith)) ∙ omega (arith, ints)

pub each_on_basis : {K : Type 0} (P : K → Type 0) (basis : ℕ → K) (w : ℕ → ℕ) (n : ℕ) → ((r : ℕ) → r < n → P (basis r)) → Each P (on_basis basis w n)
each_on_basis P basis w zero h = tt
each_on_basis P basis w (suc n) h = (h n (omega arith), each_on_basis P basis w n (λ r k. h r (omega arith)))

-- ---- differences
total-minus : (n : ℕ) (f g : ℕ → ℤ) → total n (λ i. f i -ℤ g i) ≡ total n f -ℤ total n g
total-minus zero f g = refl
total-minus (suc n) f g = omega (arith, ints, total-minus n f g)

pub dot-minus_right : (n : ℕ) (f g h : ℕ → ℤ) → dot n f (λ i. g i -ℤ h i) ≡ dot n f g -ℤ dot n f h
dot-minus_right n f g h = total-same n _ _ (λ i b. *ℤ--ℤ (f i) (g i) (h i)) ∙ total-minus n (λ i. f i *ℤ g i) (λ i. f i *ℤ h i)

-- at tight columns the prices tell the cost
price_is_cost : {K : Type 0} (column : K → Column) (m : ℕ) (y : ℕ → ℤ) (kappa : ℤ) (ws : List (Weighted K)) → Each (λ k. reduced m y kappa (column k) ≡ pos 0) ws → dot m y (brought column ws) ≡ kappa *ℤ cost_of column ws
price_is_cost column m y kappa [] h = let z = dot-zero_right m y in omega (arith, ints)
price_is_cost column m y kappa (w ∷ ws) h =
    let one : dot m y (column w.key).entry ≡ kappa *ℤ (column w.key).cost = omega (arith, ints, h.0) in
    dot-add_right m y (λ i. pos w.weight *ℤ (column w.key).entry i) (brought column ws)
    ∙ ap (λ (z : ℤ). z +ℤ dot m y (brought column ws)) (dot-scale_right m (pos w.weight) y (column w.key).entry ∙ ap (λ (z : ℤ). pos w.weight *ℤ z) one ∙ swapped w.weight kappa (column w.key).cost)
    ∙ ap (λ (z : ℤ). kappa *ℤ (pos w.weight *ℤ (column w.key).cost) +ℤ z) (price_is_cost column m y kappa ws h.1)
    ∙ sym (*ℤ-+ℤ kappa (pos w.weight *ℤ (column w.key).cost) (cost_of column ws))

-- ---- a vector that meets the tableau's rows meets the first rows, and the other way round
module _ {K : Type 0} (p : Program K) (t : Tableau K) (tied : IsTied p t) (v : ℕ → ℤ) (q : ℤ) where
  pub to_first : ((r : ℕ) → r < p.rows → dot p.rows (t.row r) v ≡ q *ℤ t.right r) → (i : ℕ) → i < p.rows → v i ≡ q *ℤ p.right i
  to_first met i h =
      let zero_row : (r : ℕ) → r < p.rows → dot p.rows (t.row r) (λ i. v i -ℤ q *ℤ p.right i) ≡ pos 0 =
      λ r k. dot-minus_right p.rows (t.row r) v (λ i. q *ℤ p.right i)
      ∙ ap (λ (z : ℤ). z -ℤ dot p.rows (t.row r) (λ i. q *ℤ p.right i)) (met r k)
      ∙ ap (λ (z : ℤ). q *ℤ t.right r -ℤ z) (dot-scale_right p.rows q (t.row r) p.right ∙ ap (λ (z : ℤ). q *ℤ z) (sym (tied.right r k)))
      ∙ omega (arith, ints) in
      let z = tied.kernel (λ i. v i -ℤ q *ℤ p.right i) zero_row i h in omega (arith, ints)

  pub from_first : ((i : ℕ) → i < p.rows → v i ≡ q *ℤ p.right i) → (r : ℕ) → r < p.rows → dot p.rows (t.row r) v ≡ q *ℤ t.right r
  from_first met r h =
      dot-same_right p.rows (t.row r) v (λ i. q *ℤ p.right i) met ∙ dot-scale_right p.rows q (t.row r) p.right ∙ ap (λ (z : ℤ). q *ℤ z) (sym (tied.right r h))

-- ---- the solution of the tableau
module _ {K : Type 0} (p : Program K) (t : Tableau K) (tied : IsTied p t) (w : ℕ → ℕ) (q : ℕ) (s : IsTableauSolution p t w q) where
  solution_meets : (i : ℕ) → i < p.rows → brought p.column (on_basis t.basis w p.rows) i ≡ pos q *ℤ p.right i
  solution_meets = to_first p t tied (brought p.column (on_basis t.basis w p.rows)) (pos q) (λ r h. row_seen p.column p.rows t.row t.basis w tied.apart p.rows r h (omega arith) ∙ s.weights r h)

  pub is_solution : IsSolution p (on_basis t.basis w p.rows) q
  is_solution = record { positive = s.positive; columns = each_on_basis p.belongs t.basis w p.rows tied.belongs; meets = solution_meets }

  pub solution_cost : t.kappa *ℤ cost_of p.column (on_basis t.basis w p.rows) ≡ pos q *ℤ t.value
  solution_cost =
      sym (price_is_cost p.column p.rows t.y t.kappa (on_basis t.basis w p.rows) (each_on_basis (λ k. reduced p.rows t.y t.kappa (p.column k) ≡ pos 0) t.basis w p.rows tied.tight))
      ∙ dot-same_right p.rows t.y (brought p.column (on_basis t.basis w p.rows)) (λ i. pos q *ℤ p.right i) solution_meets ∙ dot-scale_right p.rows (pos q) t.y p.right ∙ ap (λ (z : ℤ). pos q *ℤ z) (sym tied.value)

-- each tied tableau has one
module _ {K : Type 0} (p : Program K) (t : Tableau K) (tied : IsTied p t) where
  pub pivot_size : ℕ → ℕ
  pivot_size r = unsigned_abs (entry p.rows t r (p.column (t.basis r)))

  pub pivot_size_is : (r : ℕ) → r < p.rows → pos (pivot_size r) ≡ entry p.rows t r (p.column (t.basis r))
  unfolding pivot_size
  pivot_size_is r h = natural _ (let d = tied.diagonal r h in omega (arith, ints))

  pub sizes_positive : (r : ℕ) → r < p.rows → 0 < pivot_size r
  sizes_positive r h = let d = tied.diagonal r h in let e = pivot_size_is r h in omega (arith, ints)

  pub tableau_solution : (w : ℕ → ℕ) × (q : ℕ) × IsTableauSolution p t w q
  tableau_solution = (
    λ r. unsigned_abs (t.right r) * others pivot_size p.rows r,
    units pivot_size p.rows,
    record {
      positive = units_positive pivot_size p.rows sizes_positive;
      weights = λ r h.
          let e = others-times pivot_size p.rows r h in
          ap (λ (z : ℤ). pos (unsigned_abs (t.right r) * others pivot_size p.rows r) *ℤ z) (sym (pivot_size_is r h))
          ∙ ap pos (omega (arith, ap (λ n. unsigned_abs (t.right r) * n) e))
          ∙ ap (λ (z : ℤ). pos (units pivot_size p.rows) *ℤ z) (natural (t.right r) (tied.feasible r h));
    },
  )

-- a tied tableau whose prices leave no column of the set with a negative reduced cost has the value of the program
pub tied_value : {K : Type 0} (p : Program K) (t : Tableau K) → IsTied p t → IsPricedOut p t.y t.kappa → IsValue p t.value (unsigned_abs t.kappa)
tied_value p t tied priced =
    let kn : pos (unsigned_abs t.kappa) ≡ t.kappa = natural t.kappa (omega (arith, ints, tied.kappa)) in
    let s = tableau_solution p t tied in
    record {
      positive = omega (arith, ints, tied.kappa);
      reached = (
        on_basis t.basis s.0 p.rows,
        s.1,
        is_solution p t tied s.0 s.1 s.2,
        rw kn (*ℤ_comm (cost_of p.column (on_basis t.basis s.0 p.rows)) t.kappa ∙ solution_cost p t tied s.0 s.1 s.2 ∙ *ℤ_comm (pos s.1) t.value),
      );
      least = λ xs n x.
          let d = weak_duality p t.y t.kappa priced xs n x in
          rw (kn, tied.value, *ℤ_comm (dot p.rows t.y p.right) (pos n), *ℤ_comm (cost_of p.column xs) t.kappa) d;
    }

-- ---- basic
-- a sum with one term that is not 0
total-single : (n s : ℕ) (g : ℕ → ℤ) → ((r : ℕ) → r < n → r ≢ s → g r ≡ pos 0) → s < n → total n g ≡ g s
total-single zero s g h l = absurd (omega arith)
total-single (suc n) s g h l = by (λ k. total-single n s g (λ r b. h r (omega arith)) k) (cases_eq s n)
  where
    by : (s < n → total n g ≡ g s) → (s ≡ n) ⊎ (s ≡ n → ⊥) → total n g +ℤ g n ≡ g s
    by rec (inl e) =
        let none : total n g ≡ pos 0 = total-same n g (λ r. pos 0) (λ r b. h r (omega arith) (λ q. omega arith)) ∙ total-zero n in
        rw e (ap (λ (z : ℤ). z +ℤ g n) none ∙ omega (arith, ints))
    by rec (inr e) =
        let last : g n ≡ pos 0 = h n (omega arith) (λ q. e (sym q)) in
        ap (λ (z : ℤ). total n g +ℤ z) last ∙ ap (λ (z : ℤ). z +ℤ pos 0) (rec (omega arith)) ∙ omega (arith, ints)

-- the keys that the solution of a tableau uses are basic
basis_of_uses : {K : Type 0} (basis : ℕ → K) (w : ℕ → ℕ) (n : ℕ) (k : K) → Uses (on_basis basis w n) k → (s : ℕ) × (s < n) × (basis s ≡ k)
basis_of_uses basis w zero k u = absurd u
basis_of_uses basis w (suc n) k (inl e) = (n, omega arith, e.0)
basis_of_uses basis w (suc n) k (inr u) = let x = basis_of_uses basis w n k u in (x.0, omega arith, x.2)

zero_left : (x : ℤ) → pos 0 *ℤ x ≡ pos 0
zero_left x = omega (arith, ints)

-- weights of the rows that pick a number of each basic column
module _ {K : Type 0} (p : Program K) (t : Tableau K) (tied : IsTied p t) (f : K → ℤ) where
  factor : ℕ → ℤ
  factor r = f (t.basis r) *ℤ pos (others (pivot_size p t tied) p.rows r)

  picked : (ℕ → ℤ) → ℤ
  picked g = total p.rows (λ r. factor r *ℤ dot p.rows (t.row r) g)

  picked-same : (g h : ℕ → ℤ) → ((i : ℕ) → i < p.rows → g i ≡ h i) → picked g ≡ picked h
  unfolding picked
  picked-same g h e = total-same p.rows _ _ (λ r b. ap (λ (z : ℤ). factor r *ℤ z) (dot-same_right p.rows (t.row r) g h e))

  picked-zero : picked (λ i. pos 0) ≡ pos 0
  unfolding picked
  picked-zero = total-same p.rows _ _ (λ r b. ap (λ (z : ℤ). factor r *ℤ z) (dot-zero_right p.rows (t.row r)) ∙ omega (arith, ints)) ∙ total-zero p.rows

  picked-scale : (k : ℤ) (g : ℕ → ℤ) → picked (λ i. k *ℤ g i) ≡ k *ℤ picked g
  unfolding picked
  picked-scale k g =
      total-same p.rows _ _ (λ r b. ap (λ (z : ℤ). factor r *ℤ z) (dot-scale_right p.rows k (t.row r) g) ∙ sym (*ℤ-assoc (factor r) k _) ∙ ap (λ (z : ℤ). z *ℤ dot p.rows (t.row r) g) (*ℤ_comm (factor r) k) ∙ *ℤ-assoc k (factor r) _)
      ∙ total-scale p.rows k (λ r. factor r *ℤ dot p.rows (t.row r) g)

  picked-add : (g h : ℕ → ℤ) → picked (λ i. g i +ℤ h i) ≡ picked g +ℤ picked h
  unfolding picked
  picked-add g h =
      total-same p.rows _ _ (λ r b. ap (λ (z : ℤ). factor r *ℤ z) (dot-add_right p.rows (t.row r) g h) ∙ *ℤ-+ℤ (factor r) _ _)
      ∙ total-add p.rows (λ r. factor r *ℤ dot p.rows (t.row r) g) (λ r. factor r *ℤ dot p.rows (t.row r) h)

  -- the number of a basic column
  picked-basic : (s : ℕ) → s < p.rows → picked (p.column (t.basis s)).entry ≡ f (t.basis s) *ℤ pos (units (pivot_size p t tied) p.rows)
  unfolding picked factor
  picked-basic s h =
      total-single p.rows s (λ r. factor r *ℤ entry p.rows t r (p.column (t.basis s))) (λ r b n. ap (λ (z : ℤ). factor r *ℤ z) (tied.apart r s b h n) ∙ omega (arith, ints)) h
      ∙ ap (λ (z : ℤ). factor s *ℤ z) (sym (pivot_size_is p t tied s h))
      ∙ *ℤ-assoc (f (t.basis s)) (pos (others (pivot_size p t tied) p.rows s)) (pos (pivot_size p t tied s))
      ∙ ap (λ n. f (t.basis s) *ℤ pos n) (others-times (pivot_size p t tied) p.rows s h)

  picked-key : (k : K) → ((s : ℕ) × (s < p.rows) × (t.basis s ≡ k)) → picked (p.column k).entry ≡ f k *ℤ pos (units (pivot_size p t tied) p.rows)
  picked-key k x = subst (λ (b : K). picked (p.column b).entry ≡ f b *ℤ pos (units (pivot_size p t tied) p.rows)) x.2 (picked-basic x.0 x.1)

  -- columns that are basic where they have a weight
  picked-brought : (vs : List (Weighted K)) → ((k : K) → Uses vs k → (s : ℕ) × (s < p.rows) × (t.basis s ≡ k)) → picked (brought p.column vs) ≡ weighted_sum f vs *ℤ pos (units (pivot_size p t tied) p.rows)
  picked-brought [] h = picked-zero ∙ omega (arith, ints)
  picked-brought (v ∷ vs) h =
      let e = units (pivot_size p t tied) p.rows in
      let rest = picked-brought vs (λ k u. h k (inr u)) in
      picked-add (λ i. pos v.weight *ℤ (p.column v.key).entry i) (brought p.column vs)
      ∙ ap (λ (z : ℤ). z +ℤ picked (brought p.column vs)) (picked-scale (pos v.weight) (p.column v.key).entry ∙ one v.weight (λ l. h v.key (inl (refl, l))))
      ∙ ap (λ (z : ℤ). (pos v.weight *ℤ f v.key) *ℤ pos e +ℤ z) rest
      ∙ sym (times_sum (pos v.weight *ℤ f v.key) (weighted_sum f vs) (pos e))
    where
      one : (n : ℕ) → (0 < n → (s : ℕ) × (s < p.rows) × (t.basis s ≡ v.key)) → pos n *ℤ picked (p.column v.key).entry ≡ (pos n *ℤ f v.key) *ℤ pos (units (pivot_size p t tied) p.rows)
      one zero k = zero_left (picked (p.column v.key).entry) ∙ sym (ap (λ (z : ℤ). z *ℤ pos (units (pivot_size p t tied) p.rows)) (zero_left (f v.key)) ∙ zero_left (pos (units (pivot_size p t tied) p.rows)))
      one (suc n) k = ap (λ (z : ℤ). pos (suc n) *ℤ z) (picked-key v.key (k (omega arith))) ∙ sym (*ℤ-assoc (pos (suc n)) (f v.key) (pos (units (pivot_size p t tied) p.rows)))

      times_sum : (a b c : ℤ) → (a +ℤ b) *ℤ c ≡ a *ℤ c +ℤ b *ℤ c
      times_sum a b c = *ℤ_comm (a +ℤ b) c ∙ *ℤ-+ℤ c a b ∙ ap (λ (z : ℤ). z +ℤ c *ℤ b) (*ℤ_comm c a) ∙ ap (λ (z : ℤ). a *ℤ c +ℤ z) (*ℤ_comm c b)

  picked-solution : (vs : List (Weighted K)) (d : ℕ) → IsSolution p vs d → ((k : K) → Uses vs k → (s : ℕ) × (s < p.rows) × (t.basis s ≡ k)) → weighted_sum f vs *ℤ pos (units (pivot_size p t tied) p.rows) ≡ pos d *ℤ picked p.right
  picked-solution vs d x h = sym (picked-brought vs h) ∙ picked-same (brought p.column vs) (λ i. pos d *ℤ p.right i) x.meets ∙ picked-scale (pos d) p.right

  -- two solutions on basic columns have the same sums
  pub same_sums : (ws : List (Weighted K)) (q : ℕ) (vs : List (Weighted K)) (d : ℕ) → IsSolution p ws q → IsSolution p vs d → ((k : K) → Uses ws k → (s : ℕ) × (s < p.rows) × (t.basis s ≡ k)) → ((k : K) → Uses vs k → (s : ℕ) × (s < p.rows) × (t.basis s ≡ k)) → pos d *ℤ weighted_sum f ws ≡ pos q *ℤ weighted_sum f vs
  same_sums ws q vs d x y hw hv =
      let e = units (pivot_size p t tied) p.rows in
      let ep : pos 0 <ℤ pos e = let k = units_positive (pivot_size p t tied) p.rows (sizes_positive p t tied) in omega (arith, ints) in
      let a = picked-solution ws q x hw in
      let b = picked-solution vs d y hv in
      same_factor (pos e) (pos d *ℤ weighted_sum f ws) (pos q *ℤ weighted_sum f vs) ep
      (moved e d (weighted_sum f ws) ∙ ap (λ (z : ℤ). pos d *ℤ z) a ∙ sym (*ℤ-assoc (pos d) (pos q) _) ∙ ap (λ (z : ℤ). z *ℤ picked p.right) (*ℤ_comm (pos d) (pos q)) ∙ *ℤ-assoc (pos q) (pos d) _
      ∙ ap (λ (z : ℤ). pos q *ℤ z) (sym b) ∙ sym (moved e q (weighted_sum f vs)))
    where
      moved : (e d : ℕ) (x : ℤ) → pos e *ℤ (pos d *ℤ x) ≡ pos d *ℤ (x *ℤ pos e)
      moved e d x = swapped e (pos d) x ∙ ap (λ (z : ℤ). pos d *ℤ z) (*ℤ_comm (pos e) x)

-- the weight of the keys that pass a test, as a sum
weight_where-sum : {K : Type 0} (t : K → Bool) (ws : List (Weighted K)) → weighted_sum (λ k. cond (t k) (pos 1) (pos 0)) ws ≡ pos (weight_where t ws)
weight_where-sum t [] = refl
weight_where-sum t (w ∷ ws) = by (t w.key) (weight_where-sum t ws)
  where
    by : (b : Bool) → weighted_sum (λ k. cond (t k) (pos 1) (pos 0)) ws ≡ pos (weight_where t ws) → pos w.weight *ℤ cond b (pos 1) (pos 0) +ℤ weighted_sum (λ k. cond (t k) (pos 1) (pos 0)) ws ≡ pos (cond b w.weight 0 + weight_where t ws)
    by true e = omega (arith, ints)
    by false e = omega (arith, ints)

pub tied_basic : {K : Type 0} (p : Program K) (t : Tableau K) (tied : IsTied p t) (w : ℕ → ℕ) (q : ℕ) → IsTableauSolution p t w q → IsBasic p (on_basis t.basis w p.rows) q
tied_basic p t tied w q s = record {
  solution = is_solution p t tied w q s;
  only = λ vs d x used test.
      let ws = on_basis t.basis w p.rows in
      let e = same_sums p t tied (λ k. cond (test k) (pos 1) (pos 0)) ws q vs d (is_solution p t tied w q s) x (λ k u. basis_of_uses t.basis w p.rows k u) (λ k u. basis_of_uses t.basis w p.rows k (used k u)) in
      let a = weight_where-sum test ws in
      let b = weight_where-sum test vs in
      let k : pos (d * weight_where test ws) ≡ pos (q * weight_where test vs) = rw (a, b) at e in
      omega (arith, ints, k);
}
