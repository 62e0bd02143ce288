-- Columns that enter, and prices that are copied.
use Rattle.std.proofs.Common.{◌≡◌, ℕ, ℤ, ◌+◌, ◌<◌, ◌^◌, pos, ◌*ℤ◌, ◌-ℤ◌, ◌≤ℤ◌, ◌<ℤ◌, List, sym, ap, ◌⊎◌, inl, inr, Option, Some, None, IfSome, IfNone, arith, unsigned_abs}
use Rattle.law_bounds.specs.linear_programs.Sums.{dot}
use Rattle.law_bounds.specs.linear_programs.Program.{Column, Program, IsSound, reduced, IsPricedOut}
use Rattle.law_bounds.proofs.linear_programs.TiedTableau.{IsTied}
use Rattle.law_bounds.proofs.linear_programs.Paths.{path_tied}
use Rattle.law_bounds.proofs.linear_programs.Totals.{total-same, dot-same_right}
use Rattle.lp_fractions.specs.Row.{at}
use Rattle.lp_fractions.specs.declared.pivot_rows.column.Place.{Place}
use Rattle.lp_fractions.specs.pivot_rows.Columns.{IsColumn, number_in}
use Rattle.lp_tableaus.specs.Lines.{row_at, IsLine}
use Rattle.lp_tableaus.specs.Sheet.{tableau_of, AreCopied, IsOnPath}
use Rattle.lp_tableaus.specs.Cheaper.{IsCheaper, HasLargePlace}
use Rattle.lp_tableaus.specs.Ends.{HasLargeColumn, IsLpFault}
use Rattle.lp_tableaus.specs.Faults.{fault_of}
use Rattle.lp_tableaus.specs.Refused.{AreWidePrices, IsColumnsFault}
use Rattle.lp_tableaus.specs.declared.columns.ColumnsFault.{ColumnsFault}
use Rattle.lp_tableaus.specs.declared.columns.ColumnsFault.TheVariants.{Wide, Memory}
use Rattle.lp_fractions.specs.Range.{Counts}
use Rattle.lp_tableaus.proofs.PositiveEntries.{has_entry}
use Rattle.lp_tableaus.proofs.Places.{large_column}

pub same_reduced : (m : ℕ) (y cost : List ℤ) (kappa : ℤ) (c : Column) → AreCopied m y cost → reduced m (at y) kappa c ≡ reduced m (at cost) kappa c
same_reduced m y cost kappa c e =
    let same : dot m (at y) c.entry ≡ dot m (at cost) c.entry = total-same m _ _ (λ i h. ap (λ (z : ℤ). z *ℤ c.entry i) (e i h)) in
    ap (λ (z : ℤ). kappa *ℤ c.cost -ℤ z) same

module _ {K : Type 0} (p : Program K) (Lists : ℕ → K → Type 0) (size : ℕ) (y cost : List ℤ) (kappa : ℤ) (copied : AreCopied p.rows y cost) (is : kappa ≡ at cost (p.rows + 1)) where
  pub found_cheaper : (answer : Option ℕ) → IfSome answer (λ j. (j < size) × (k : K) × Lists j k × p.belongs k × (reduced p.rows (at y) kappa (p.column k) <ℤ pos 0)) → IfSome answer (λ j. IsCheaper p Lists size cost j)
  found_cheaper None h = tt
  found_cheaper (Some j) h = record {
    within = h.0;
    key = h.1;
    listed = h.2;
    member = h.3;
    cheaper = rw (same_reduced p.rows y cost kappa (p.column h.1) copied, is) at h.4;
  }

  pub none_priced : (answer : Option ℕ) → IfNone answer (IsPricedOut p (at y) kappa) → IfNone answer (IsPricedOut p (at cost) (at cost (p.rows + 1)))
  none_priced None h = λ k b. rw (same_reduced p.rows y cost kappa (p.column k) copied, is) at (h k b)
  none_priced (Some j) h = tt

-- copied prices are never too wide
pub priced_fault : {K : Type 0} (p : Program K) (Lists : ℕ → K → Type 0) (n : ℕ) (y cost : List ℤ) (kappa : ℤ) (old new : Counts) → AreCopied p.rows y cost → kappa ≡ at cost (p.rows + 1) → IsLine (p.rows + 2) cost
    → (f : ColumnsFault) → IsColumnsFault p.rows y kappa old new f → IsLpFault p Lists n old new (fault_of f)
priced_fault p Lists n y cost kappa old new copied is line Memory h = tt
priced_fault p Lists n y cost kappa old new copied is line (Wide fault) h = absurd (by h.1)
  where
    by : AreWidePrices p.rows y kappa → ⊥
    by (inl w) = let narrow = line.narrow (p.rows + 1) (pos 0) (omega (arith, line.long)) in omega (arith, ap unsigned_abs is, narrow, w)
    by (inr w) = let narrow = line.narrow w.0 (pos 0) (omega (arith, line.long, w.1)) in omega (arith, ap unsigned_abs (copied w.0 w.1), narrow, w.2)

-- what is known of a path's tableau
pub tied_of : {K : Type 0} (p : Program K) (Lists : ℕ → K → Type 0) (rows : List (List ℤ)) (cost : List ℤ) (basis : List ℕ) (n : ℕ) → IsSound p → (o : IsOnPath p Lists rows cost basis n) → IsTied p (tableau_of p.rows o.keys rows cost)
tied_of p Lists rows cost basis n sound o = path_tied p sound n (tableau_of p.rows o.keys rows cost) o.path

-- some row has an entry above 0
pub some_entry : {K : Type 0} (p : Program K) (Lists : ℕ → K → Type 0) (rows : List (List ℤ)) (cost : List ℤ) (basis : List ℕ) (n : ℕ) → IsSound p → ((k : K) → p.belongs k → pos 0 ≤ℤ (p.column k).cost) → IsOnPath p Lists rows cost basis n
    → (size column : ℕ) (cheaper : IsCheaper p Lists size cost column) (places : List Place) → IsColumn p.rows (p.column cheaper.key).entry places
    → (r : ℕ) × (r < p.rows) × (pos 0 <ℤ dot p.rows (at (row_at rows r)) (number_in places))
some_entry p Lists rows cost basis n sound costs o size column cheaper places is =
    let x = has_entry p (tableau_of p.rows o.keys rows cost) (tied_of p Lists rows cost basis n sound o) costs (p.column cheaper.key) (costs cheaper.key cheaper.member) cheaper.cheaper in
    let same = dot-same_right p.rows (at (row_at rows x.0)) (number_in places) (p.column cheaper.key).entry (λ i h. sym (is.numbers i h)) in
    (x.0, x.1, rw (sym same) at x.2)

-- a column that is refused
pub refused_column : {K : Type 0} (p : Program K) (Lists : ℕ → K → Type 0) (j : ℕ) (key : K) (places : List Place) (own : ℤ) → IsColumn p.rows (p.column key).entry places → own ≡ (p.column key).cost → Lists j key
    → HasLargePlace places ⊎ (pos (2 ^ 39) <ℤ own) → HasLargeColumn p Lists
refused_column p Lists j key places own c e listed (inl x) = large_column p Lists j key places c listed x
refused_column p Lists j key places own c e listed (inr x) = (j, key, listed, inr (rw e at x))
