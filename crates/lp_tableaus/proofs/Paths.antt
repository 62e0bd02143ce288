-- Turns over lists are steps of a path.
use Rattle.std.proofs.Common.{◌≡◌, ◌≢◌, ℕ, ℤ, suc, ◌+◌, ◌<◌, arith, pos, neg_ℤ, ◌<ℤ◌, List, length, refl, sym, ap, ◌∙◌, ◌⊎◌, inl, inr, cond}
use Rattle.std.specs.Prelude.{nat_eq}
use Rattle.std.proofs.lemmas.Bool.{cases_eq, eq-eqb, ne_eqb}
use Rattle.law_bounds.specs.linear_programs.Program.{Program, reduced}
use Rattle.law_bounds.specs.linear_programs.RowStep.{IsRowStep}
use Rattle.law_bounds.specs.linear_programs.Tableau.{Tableau, entry, whole_row, cost_row, padded_row, IsChoice, PivotPath, step, IsWide, HasWidePath}
use Rattle.law_bounds.proofs.linear_programs.RowLaws.{same_step}
use Rattle.lp_fractions.specs.Row.{at}
use Rattle.lp_fractions.specs.pivot_rows.Rows.{StepsTo, IsWideStep}
use Rattle.lp_fractions.proofs.pivot_rows.Steps.{a_step}
use Rattle.lp_tableaus.specs.Lines.{row_at, AreLines, IsLeaving, padded, HasWideRow, AreStepped}
use Rattle.lp_tableaus.specs.Sheet.{tableau_of}
use Rattle.lp_tableaus.proofs.PaddedRows.{padded_below, padded_last}

-- a row that has its right side at place m
pub whole_at : (m : ℕ) (f : ℕ → ℤ) (k : ℕ) → whole_row m f (f m) k ≡ f k
whole_at m f k = by (cases_eq k m)
  where
    by : (k ≡ m) ⊎ (k ≡ m → ⊥) → whole_row m f (f m) k ≡ f k
    by (inl e) = rw (e, eq-eqb m m refl) refl
    by (inr e) = rw (ne_eqb k m e) refl

-- a cost row that has its value and kappa behind the prices
pub cost_at : {K : Type 0} (m : ℕ) (t : Tableau K) (f : ℕ → ℤ) → ((i : ℕ) → i < m → t.y i ≡ f i) → t.value ≡ f m → t.kappa ≡ f (m + 1) → (k : ℕ) → k < m + 2 → cost_row m t k ≡ f k
cost_at m t f y v kappa k h = by (cases_eq k (m + 1)) (cases_eq k m)
  where
    by : (k ≡ m + 1) ⊎ (k ≡ m + 1 → ⊥) → (k ≡ m) ⊎ (k ≡ m → ⊥) → cost_row m t k ≡ f k
    by (inl e) _ = rw (e, eq-eqb (m + 1) (m + 1) refl) kappa
    by (inr n) (inl e) = rw (ne_eqb k (m + 1) n, eq-eqb k m e) (v ∙ ap f (sym e))
    by (inr n) (inr e) = rw (ne_eqb k (m + 1) n, ne_eqb k m e) (y k (omega arith))

module _ {K : Type 0} (p : Program K) (keys : ℕ → K) (rows : List (List ℤ)) (cost : List ℤ) (n : ℕ)
    (path : PivotPath p n (tableau_of p.rows keys rows cost)) (lines : AreLines p.rows rows)
    (entries : List ℤ) (reduction : ℤ) (key : K) (member : p.belongs key)
    (are : (r : ℕ) → r < p.rows → at entries r ≡ entry p.rows (tableau_of p.rows keys rows cost) r (p.column key))
    (is : reduction ≡ reduced p.rows (at cost) (at cost (p.rows + 1)) (p.column key)) (cheaper : reduction <ℤ pos 0)
    (t : ℕ) (leaving : IsLeaving p.rows rows entries p.rows t) where
  old : Tableau K
  old = tableau_of p.rows keys rows cost

  pub next_keys : ℕ → K
  next_keys r = cond (nat_eq r t) key (keys r)

  pub next_same : (r : ℕ) → r ≡ t → next_keys r ≡ key
  unfolding next_keys
  next_same r e = rw (eq-eqb r t e) refl

  pub next_other : (r : ℕ) → (r ≡ t → ⊥) → next_keys r ≡ keys r
  unfolding next_keys
  next_other r e = rw (ne_eqb r t e) refl

  choice : IsChoice p.rows (tableau_of p.rows keys rows cost) (p.column key) t
  choice = record {
    cheaper = rw is at cheaper;
    within = leaving.within;
    positive = rw (are t leaving.within) at leaving.positive;
    least = λ r h positive. rw (are r h, are t leaving.within) at (leaving.least r h (rw (are r h) positive));
  }

  -- the steps of the rows lead to a tableau
  pub next_path : (new : Tableau K) → ((i : ℕ) → i < p.rows → new.row t i ≡ at (row_at rows t) i) → new.right t ≡ at (row_at rows t) p.rows
      → ((r : ℕ) → r < p.rows → r ≢ t → (g : ℤ) × (left : ℕ → ℤ) × ((k : ℕ) → k < p.rows + 1 → left k ≡ whole_row p.rows (new.row r) (new.right r) k) × IsRowStep (p.rows + 1) (at entries t) (at (row_at rows r)) (at entries r) (at (padded (row_at rows t))) left g)
      → ((g : ℤ) × (left : ℕ → ℤ) × ((k : ℕ) → k < p.rows + 2 → left k ≡ cost_row p.rows new k) × IsRowStep (p.rows + 2) (at entries t) (at cost) (neg_ℤ reduction) (at (padded (row_at rows t))) left g)
      → ((r : ℕ) → r < p.rows → new.basis r ≡ next_keys r) → PivotPath p (suc n) new
  next_path new numbers right others prices basis = step n (tableau_of p.rows keys rows cost) new key t path member (record {
    choice = choice;
    same = (numbers, right);
    rows = λ r h ne.
        let x = others r h ne in (
          x.0,
          rw (are t leaving.within, are r h) at
              (same_step (p.rows + 1) (at entries t) (at (row_at rows r)) (whole_row p.rows (at (row_at rows r)) (at (row_at rows r) p.rows)) (at entries r) (at (padded (row_at rows t))) (whole_row p.rows (at (row_at rows t)) (at (row_at rows t) p.rows)) x.1 (whole_row p.rows (new.row r) (new.right r)) x.0 x.3
              (λ k b. sym (whole_at p.rows (at (row_at rows r)) k))
              (λ k b. padded_below (row_at rows t) k (let l = (lines.each t leaving.within).long in omega arith) ∙ sym (whole_at p.rows (at (row_at rows t)) k))
              x.2),
        );
    cost = (
      prices.0,
      rw (are t leaving.within, is) at
          (same_step (p.rows + 2) (at entries t) (at cost) (cost_row p.rows (tableau_of p.rows keys rows cost)) (neg_ℤ reduction) (at (padded (row_at rows t))) (padded_row p.rows (tableau_of p.rows keys rows cost) t) prices.1 (cost_row p.rows new) prices.0 prices.3
          (λ k b. sym (cost_at p.rows (tableau_of p.rows keys rows cost) (at cost) (λ i h. refl) refl refl k b))
          (λ k b. padded_at k b (cases_eq k (p.rows + 1)))
          prices.2),
    );
    basis = (basis t leaving.within ∙ next_same t refl, λ r h ne. basis r h ∙ next_other r ne);
  })
    where
      long : length (row_at rows t) ≡ p.rows + 1
      long = (lines.each t leaving.within).long

      padded_at : (k : ℕ) → k < p.rows + 2 → (k ≡ p.rows + 1) ⊎ (k ≡ p.rows + 1 → ⊥) → at (padded (row_at rows t)) k ≡ padded_row p.rows (tableau_of p.rows keys rows cost) t k
      padded_at k h (inl e) = rw (eq-eqb k (p.rows + 1) e) (padded_last (row_at rows t) k (let l = long in omega arith))
      padded_at k h (inr ne) = rw (ne_eqb k (p.rows + 1) ne) (padded_below (row_at rows t) k (let l = long in omega arith) ∙ sym (whole_at p.rows (at (row_at rows t)) k))

  -- a turn over lists
  pub turn_path : (new : List (List ℤ)) (left : List ℤ) → length cost ≡ p.rows + 2 → AreStepped rows entries t new p.rows → StepsTo cost (at entries t) (padded (row_at rows t)) (neg_ℤ reduction) left
      → PivotPath p (suc n) (tableau_of p.rows next_keys new left)
  turn_path new left long s prices =
      next_path (tableau_of p.rows next_keys new left) (λ i h. ap (λ (row : List ℤ). at row i) s.same) (ap (λ (row : List ℤ). at row p.rows) s.same)
      (λ r h ne.
      let x = s.stepped r h ne in
      (x.0, at (row_at new r), (λ k b. sym (whole_at p.rows (at (row_at new r)) k)), rw (lines.each r h).long at x.1))
      (prices.0, at left, (λ k b. sym (cost_at p.rows (tableau_of p.rows next_keys new left) (at left) (λ i h. refl) refl refl k b)), rw long at prices.1)
      (λ r h. refl)

  -- a tableau whose rows and cost row are steps
  next_of : (ℕ → ℕ → ℤ) → (ℕ → ℤ) → Tableau K
  next_of lefts costs = record {
    row = λ r i. cond (nat_eq r t) (at (row_at rows t) i) (lefts r i);
    right = λ r. cond (nat_eq r t) (at (row_at rows t) p.rows) (lefts r p.rows);
    basis = next_keys;
    y = costs;
    value = costs p.rows;
    kappa = costs (p.rows + 1);
  }

  next_of_path : (lefts : ℕ → ℕ → ℤ) → ((r : ℕ) → r < p.rows → r ≢ t → (g : ℤ) × IsRowStep (p.rows + 1) (at entries t) (at (row_at rows r)) (at entries r) (at (padded (row_at rows t))) (lefts r) g)
      → (costs : ℕ → ℤ) → ((g : ℤ) × IsRowStep (p.rows + 2) (at entries t) (at cost) (neg_ℤ reduction) (at (padded (row_at rows t))) costs g) → PivotPath p (suc n) (next_of lefts costs)
  unfolding next_of
  next_of_path lefts steps costs prices =
      next_path (next_of lefts costs) (λ i h. rw (eq-eqb t t refl) refl) (rw (eq-eqb t t refl) refl)
      (λ r h ne. let x = steps r h ne in (x.0, lefts r, (λ k b. sym (left_at r k ne (cases_eq k p.rows))), x.1))
      (prices.0, costs, (λ k b. sym (cost_at p.rows (next_of lefts costs) costs (λ i h. refl) refl refl k b)), prices.1)
      (λ r h. refl)
    where
      left_at : (r k : ℕ) → r ≢ t → (k ≡ p.rows) ⊎ (k ≡ p.rows → ⊥) → whole_row p.rows ((next_of lefts costs).row r) ((next_of lefts costs).right r) k ≡ lefts r k
      left_at r k ne (inl e) = rw (e, eq-eqb p.rows p.rows refl, ne_eqb r t ne) refl
      left_at r k ne (inr e) = rw (ne_eqb k p.rows e, ne_eqb r t ne) refl

  some_left : ℕ → ℕ → ℤ
  some_left r = (a_step (p.rows + 1) (at entries t) (at (row_at rows r)) (at entries r) (at (padded (row_at rows t)))).0

  some_step : (r : ℕ) → (g : ℤ) × IsRowStep (p.rows + 1) (at entries t) (at (row_at rows r)) (at entries r) (at (padded (row_at rows t))) (some_left r) g
  unfolding some_left
  some_step r = let x = a_step (p.rows + 1) (at entries t) (at (row_at rows r)) (at entries r) (at (padded (row_at rows t))) in (x.1, x.2)

  some_cost : (costs : ℕ → ℤ) × (g : ℤ) × IsRowStep (p.rows + 2) (at entries t) (at cost) (neg_ℤ reduction) (at (padded (row_at rows t))) costs g
  some_cost = a_step (p.rows + 2) (at entries t) (at cost) (neg_ℤ reduction) (at (padded (row_at rows t)))

  -- a row whose step is wide
  wide_left : HasWideRow p.rows rows entries t → ℕ → ℕ → ℤ
  wide_left x s = cond (nat_eq s x.0) x.3.left (some_left s)

  row_path : HasWideRow p.rows rows entries t → HasWidePath p
  unfolding next_of wide_left
  row_path x = (suc n, next_of (wide_left x) some_cost.0, next_of_path (wide_left x) (λ r h ne. steps r h (cases_eq r x.0)) some_cost.0 (some_cost.1, some_cost.2), wide (cases_eq x.3.place p.rows))
    where
      steps : (r : ℕ) → r < p.rows → (r ≡ x.0) ⊎ (r ≡ x.0 → ⊥) → (g : ℤ) × IsRowStep (p.rows + 1) (at entries t) (at (row_at rows r)) (at entries r) (at (padded (row_at rows t))) (wide_left x r) g
      steps r h (inl e) = rw (e, eq-eqb x.0 x.0 refl) (x.3.factor, rw (lines.each x.0 x.1).long at x.3.step)
      steps r h (inr e) = rw (ne_eqb r x.0 e) (some_step r)

      wide : (x.3.place ≡ p.rows) ⊎ (x.3.place ≡ p.rows → ⊥) → IsWide p.rows (next_of (wide_left x) some_cost.0)
      wide (inl e) = inr (inl (x.0, x.1, rw (ne_eqb x.0 t x.2, eq-eqb x.0 x.0 refl, sym e) x.3.wide))
      wide (inr e) = inl (x.0, x.3.place, x.1, (let l = (lines.each x.0 x.1).long in let w = x.3.within in omega arith), rw (ne_eqb x.0 t x.2, eq-eqb x.0 x.0 refl) x.3.wide)

  -- the cost row's step is wide
  cost_path : length cost ≡ p.rows + 2 → IsWideStep cost (at entries t) (padded (row_at rows t)) (neg_ℤ reduction) → HasWidePath p
  unfolding next_of
  cost_path long x = (suc n, next_of some_left x.left, next_of_path some_left (λ r h ne. some_step r) x.left (x.factor, rw long at x.step), wide (cases_eq x.place p.rows) (cases_eq x.place (p.rows + 1)))
    where
      wide : (x.place ≡ p.rows) ⊎ (x.place ≡ p.rows → ⊥) → (x.place ≡ p.rows + 1) ⊎ (x.place ≡ p.rows + 1 → ⊥) → IsWide p.rows (next_of some_left x.left)
      wide (inl e) _ = inr (inr (inr (inl (rw e at x.wide))))
      wide (inr ne) (inl e) = inr (inr (inr (inr (rw e at x.wide))))
      wide (inr ne) (inr ne') = inr (inr (inl (x.place, (let w = x.within in omega arith), x.wide)))

  pub wide_path : length cost ≡ p.rows + 2 → HasWideRow p.rows rows entries t ⊎ IsWideStep cost (at entries t) (padded (row_at rows t)) (neg_ℤ reduction) → HasWidePath p
  wide_path long (inl x) = row_path x
  wide_path long (inr x) = cost_path long x
