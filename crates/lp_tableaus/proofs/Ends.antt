-- Where paths over lists start and end.
use Rattle.std.proofs.Common.{◌≡◌, ℕ, ℤ, zero, suc, ◌+◌, ◌<◌, ◌^◌, arith, pos, ◌*ℤ◌, ◌<ℤ◌, unsigned_abs, List, length, refl, sym, ap, ◌∙◌, ◌⊎◌, inl, inr, subst, get_or-set_same, get_or-set_other}
use Rattle.std.specs.Prelude.{slice_index, slice_set}
use Rattle.std.proofs.lemmas.Bool.{cases_eq, eq-eqb, ne_eqb}
use Rattle.law_bounds.specs.linear_programs.Sums.{dot}
use Rattle.law_bounds.specs.linear_programs.Program.{Column, Program, unit_vector, reduced}
use Rattle.law_bounds.specs.linear_programs.Tableau.{Tableau, entry, cost_row, PivotPath, start, step, HasWidePath}
use Rattle.law_bounds.proofs.linear_programs.RowLaws.{same_step}
use Rattle.law_bounds.proofs.linear_programs.Totals.{total-same, dot-same_right}
use Rattle.lp_fractions.specs.Row.{at}
use Rattle.lp_fractions.specs.declared.pivot_rows.column.Place.{Place}
use Rattle.lp_fractions.specs.pivot_rows.Columns.{IsColumn, number_in}
use Rattle.lp_tableaus.specs.Lines.{row_at, AreEntries, IsTurn, IsWideTurn}
use Rattle.lp_tableaus.specs.Sheet.{tableau_of, IsSheet, IsOnPath}
use Rattle.lp_tableaus.proofs.Paths.{cost_at, next_keys, next_same, next_other, turn_path, wide_path}

-- ---- the start
module _ {K : Type 0} (p : Program K) where
  pub first_path : (rows : List (List ℤ)) (cost : List ℤ) → ((r i : ℕ) → r < p.rows → i < p.rows → at (row_at rows r) i ≡ unit_vector r i)
      → ((r : ℕ) → r < p.rows → at (row_at rows r) p.rows ≡ p.right r) → ((i : ℕ) → i < p.rows → at cost i ≡ (p.column (p.unit i)).cost)
      → at cost p.rows ≡ dot p.rows (at cost) p.right → at cost (p.rows + 1) ≡ pos 1 → PivotPath p zero (tableau_of p.rows p.unit rows cost)
  first_path rows cost units right y value kappa = start (tableau_of p.rows p.unit rows cost) (record {
    rows = units;
    right = right;
    basis = λ r h. refl;
    y = y;
    value = value;
    kappa = kappa;
  })

  -- the first tableau in numbers of the program
  first : Tableau K
  first = record {
    row = unit_vector;
    right = p.right;
    basis = p.unit;
    y = λ i. (p.column (p.unit i)).cost;
    value = dot p.rows (λ i. (p.column (p.unit i)).cost) p.right;
    kappa = pos 1;
  }

  first_of : PivotPath p zero first
  unfolding first
  first_of = start first (record {
    rows = λ r i h b. refl;
    right = λ r h. refl;
    basis = λ r h. refl;
    y = λ i h. refl;
    value = refl;
    kappa = refl;
  })

  pub wide_right : (r : ℕ) → r < p.rows → 2 ^ 56 < unsigned_abs (p.right r) → HasWidePath p
  unfolding first
  wide_right r h w = (zero, first, first_of, inr (inl (r, h, w)))

  pub wide_value : (cost : ℕ → ℤ) → ((i : ℕ) → i < p.rows → cost i ≡ (p.column (p.unit i)).cost) → 2 ^ 56 < unsigned_abs (dot p.rows cost p.right) → HasWidePath p
  unfolding first
  wide_value cost e w =
      let same : dot p.rows cost p.right ≡ dot p.rows (λ i. (p.column (p.unit i)).cost) p.right = total-same p.rows _ _ (λ i h. ap (λ (z : ℤ). z *ℤ p.right i) (e i h)) in
      (zero, first, first_of, inr (inr (inr (inl (rw same at w)))))

  -- ---- other prices behind the rows
  pub path_prices : (n : ℕ) (t : Tableau K) (y : ℕ → ℤ) → ((i : ℕ) → i < p.rows → t.y i ≡ y i) → PivotPath p n t → PivotPath p n (record t { y = y })
  path_prices _ _ y e (start t s) = start (record t { y = y }) (record {
    rows = s.rows;
    right = s.right;
    basis = s.basis;
    y = λ i h. sym (e i h) ∙ s.y i h;
    value = s.value ∙ total-same p.rows _ _ (λ i h. ap (λ (z : ℤ). z *ℤ p.right i) (e i h));
    kappa = s.kappa;
  })
  path_prices _ _ y e (step n old new k r path member s) = step n old (record new { y = y }) k r path member (record {
    choice = s.choice;
    same = s.same;
    rows = s.rows;
    cost = (
      s.cost.0,
      same_step (p.rows + 2) _ _ _ _ _ _ (cost_row p.rows new) (cost_row p.rows (record new { y = y })) s.cost.0 s.cost.1 (λ k b. refl) (λ k b. refl)
          (λ k b. cost_at p.rows new (cost_row p.rows (record new { y = y })) (λ i h. e i h ∙ sym (low i h)) (sym value) (sym kappa) k b),
    );
    basis = s.basis;
  })
    where
      low : (i : ℕ) → i < p.rows → cost_row p.rows (record new { y = y }) i ≡ y i
      low i h = rw (ne_eqb i (p.rows + 1) (λ e. omega arith), ne_eqb i p.rows (λ e. omega arith)) refl

      value : cost_row p.rows (record new { y = y }) p.rows ≡ new.value
      value = rw (ne_eqb p.rows (p.rows + 1) (λ e. omega arith), eq-eqb p.rows p.rows refl) refl

      kappa : cost_row p.rows (record new { y = y }) (p.rows + 1) ≡ new.kappa
      kappa = rw (eq-eqb (p.rows + 1) (p.rows + 1) refl) refl

-- ---- the entries of a column
pub entries_are : {K : Type 0} (m : ℕ) (keys : ℕ → K) (rows : List (List ℤ)) (cost entries : List ℤ) (places : List Place) (c : Column) → AreEntries m rows places entries m → IsColumn m c.entry places
    → (r : ℕ) → r < m → at entries r ≡ entry m (tableau_of m keys rows cost) r c
entries_are m keys rows cost entries places c e column r h = (e r h).0 ∙ dot-same_right m (at (row_at rows r)) (number_in places) c.entry (λ i b. sym (column.numbers i b))

-- ---- a turn
module _ {K : Type 0} (p : Program K) (Lists : ℕ → K → Type 0) (rows : List (List ℤ)) (cost : List ℤ) (basis : List ℕ) (n : ℕ)
    (o : IsOnPath p Lists rows cost basis n) (sheet : IsSheet p.rows rows cost basis) (places : List Place) (key : K) (member : p.belongs key)
    (column : IsColumn p.rows (p.column key).entry places) (reduction : ℤ)
    (is : reduction ≡ reduced p.rows (at cost) (at cost (p.rows + 1)) (p.column key)) (cheaper : reduction <ℤ pos 0) (entries : List ℤ) (are : AreEntries p.rows rows places entries p.rows) (t : ℕ) where
  equal : (r : ℕ) → r < p.rows → at entries r ≡ entry p.rows (tableau_of p.rows o.keys rows cost) r (p.column key)
  equal = entries_are p.rows o.keys rows cost entries places (p.column key) are column

  pub on_path_turn : (new : List (List ℤ)) (left : List ℤ) (number : ℕ) → IsTurn p.rows rows cost entries reduction t new left → Lists number key → IsOnPath p Lists new left (slice_set basis t number) (n + 1)
  on_path_turn new left number turn listed =
      let keys = next_keys p o.keys rows cost n o.path sheet.lines entries reduction key member equal is cheaper t turn.leaving in
      let path = turn_path p o.keys rows cost n o.path sheet.lines entries reduction key member equal is cheaper t turn.leaving new left sheet.prices.long turn.others turn.prices in
      let more : suc n ≡ n + 1 = omega arith in
      record {
        keys = keys;
        path = subst (λ (k : ℕ). PivotPath p k (tableau_of p.rows keys new left)) more path;
        listed = λ r h. by r h (cases_eq r t);
      }
    where
      by : (r : ℕ) → r < p.rows → (r ≡ t) ⊎ (r ≡ t → ⊥) → Lists (slice_index (slice_set basis t number) r) (next_keys p o.keys rows cost n o.path sheet.lines entries reduction key member equal is cheaper t turn.leaving r)
      by r h (inl e) =
          let inside : t < length basis = let w = turn.leaving.within in let l = sheet.columns in omega arith in
          rw (next_same p o.keys rows cost n o.path sheet.lines entries reduction key member equal is cheaper t turn.leaving r e, e, get_or-set_same) listed
      by r h (inr e) = rw (next_other p o.keys rows cost n o.path sheet.lines entries reduction key member equal is cheaper t turn.leaving r e, get_or-set_other) (o.listed r h)

  pub wide_turn : IsWideTurn p.rows rows cost entries reduction t → HasWidePath p
  wide_turn w = wide_path p o.keys rows cost n o.path sheet.lines entries reduction key member equal is cheaper t w.leaving sheet.prices.long w.wide
