-- The master of the worked day.
use lib.IntN.{*ℤ_comm}
use Rattle.std.proofs.Common.{◌≡◌, ℕ, ℤ, zero, suc, arith, pos, negsuc, ◌*ℤ◌, ◌≤ℤ◌, ◌<◌, List, [], ◌∷◌, length, refl, sym, ap, ◌∙◌, subst, ◌⊎◌, inl, inr}
use Rattle.std.proofs.lemmas.Int.{ints}
use Rattle.model_rosters.specs.Trees.{Parts, IsDayTree}
use Rattle.model_rosters.specs.Folds.{sum_z, Each}
use Rattle.model_rosters.specs.Arcs.{cost}
use Rattle.law_bounds.specs.linear_programs.Sums.{dot}
use Rattle.law_bounds.specs.linear_programs.Solution.{Weighted, IsSolution, IsValue, cost_of, brought}
use Rattle.law_bounds.proofs.linear_programs.Duality.{weak_duality}
use Rattle.law_bounds.specs.BestPrices.{artificial_cost}
use Rattle.law_bounds.specs.WorkedDay.{day, first, second, third, none, some}
use Rattle.law_bounds.proofs.WorkedDayLemmas.{three, is_tree, day_first, day_second, day_third}
use Rattle.law_bounds.specs.master_laws.Rows.{Row, rows_of, number_at}
use Rattle.law_bounds.specs.master_laws.Master.{MasterKey, missing, beyond, tree, program_of, master}
use Rattle.law_bounds.specs.master_laws.Worked.{WorkedMaster}
use Rattle.law_bounds.proofs.master_laws.RowSums.{RowPrice, rows_in, price_at, worth, IsGood, priced_out, listed_dot}

-- ---- prices of rows
pub priced_rows : List Row → List ℤ → List RowPrice
priced_rows [] ps = []
priced_rows (x ∷ rows) [] = record { row = x; price = pos 0 } ∷ priced_rows rows []
priced_rows (x ∷ rows) (p ∷ ps) = record { row = x; price = p } ∷ priced_rows rows ps

priced_rows-are : (rows : List Row) (ps : List ℤ) → rows_in (priced_rows rows ps) ≡ rows
unfolding priced_rows
priced_rows-are [] ps = refl
priced_rows-are (x ∷ rows) [] = ap (λ (xs : List Row). x ∷ xs) (priced_rows-are rows [])
priced_rows-are (x ∷ rows) (p ∷ ps) = ap (λ (xs : List Row). x ∷ xs) (priced_rows-are rows ps)

-- what the prices pay a tree is at most its cost
abbrev pays : List RowPrice → Parts → Type 0
pays xs t = sum_z (worth (λ x. pos (x.brings t))) xs ≤ℤ (pos 1 *ℤ pos (cost day.grammar t))

module _ (xs : List RowPrice) (good : Each (IsGood (artificial_cost day) (pos 1)) xs) (one : pays xs first) (two : pays xs second) (three : pays xs third) where
  pay_all : (t : Parts) → IsDayTree day.grammar t → pays xs t
  pay_all t d = by (is_tree t d)
    where
      by : (t ≡ first) ⊎ (t ≡ second) ⊎ (t ≡ third) → pays xs t
      by (inl e) = subst (pays xs) (sym e) one
      by (inr (inl e)) = subst (pays xs) (sym e) two
      by (inr (inr e)) = subst (pays xs) (sym e) three

  -- a solution whose cost the prices tell is one of least cost
  value_of : (v : ℤ) (ws : List (Weighted MasterKey)) (q : ℕ) → IsSolution (program_of day (rows_in xs)) ws q → cost_of (program_of day (rows_in xs)).column ws *ℤ pos 1 ≡ v *ℤ pos q
      → sum_z (worth (λ (x : Row). pos x.right)) xs ≡ v → IsValue (program_of day (rows_in xs)) v 1
  value_of v ws q s c e = record {
    positive = omega arith;
    reached = (ws, q, s, c);
    least = λ vs d t.
        let w = weak_duality (program_of day (rows_in xs)) (price_at xs) (pos 1) (priced_out day (pos 1) xs good pay_all) vs d t in
        let f = listed_dot (λ (x : Row). pos x.right) xs in
        finish v (dot (length (rows_in xs)) (price_at xs) (number_at (λ (x : Row). pos x.right) (rows_in xs))) (cost_of (program_of day (rows_in xs)).column vs) d (f ∙ e) w;
  }
    where
      finish : (v V C : ℤ) (d : ℕ) → V ≡ v → (pos d *ℤ V) ≤ℤ (pos 1 *ℤ C) → (v *ℤ pos d) ≤ℤ (C *ℤ pos 1)
      finish v V C d e h =
          let a = *ℤ_comm v (pos d) in
          let b = *ℤ_comm C (pos 1) in
          let c : pos d *ℤ V ≡ pos d *ℤ v = ap (λ (z : ℤ). pos d *ℤ z) e in
          omega (arith, ints)

abbrev of : MasterKey → ℕ → Weighted MasterKey
of k n = record { weight = n; key = k }

-- a number below 5, or below 6
below_five : (P : ℕ → Type 0) → P 0 → P 1 → P 2 → P 3 → P 4 → (i : ℕ) → i < 5 → P i
below_five P a b c d e zero h = a
below_five P a b c d e (suc zero) h = b
below_five P a b c d e (suc (suc zero)) h = c
below_five P a b c d e (suc (suc (suc zero))) h = d
below_five P a b c d e (suc (suc (suc (suc zero)))) h = e
below_five P a b c d e (suc (suc (suc (suc (suc i))))) h = absurd (omega arith)

below_six : (P : ℕ → Type 0) → P 0 → P 1 → P 2 → P 3 → P 4 → P 5 → (i : ℕ) → i < 6 → P i
below_six P a b c d e f zero h = a
below_six P a b c d e f (suc i) h = below_five (λ j. P (suc j)) b c d e f i (omega arith)

-- ---- the root
root_prices : List RowPrice
root_prices = priced_rows (rows_of day []) (pos 1 ∷ pos 1 ∷ pos 1 ∷ pos 0 ∷ pos 0 ∷ [])

root_weights : List (Weighted MasterKey)
root_weights = of (tree first) 1 ∷ of (tree second) 1 ∷ of (tree third) 1 ∷ of (beyond 3) 3 ∷ of (missing 4) 3 ∷ []

root_solution : IsSolution (master day []) root_weights 2
unfolding root_weights
root_solution = record {
  positive = omega arith;
  columns = (day_first, (day_second, (day_third, (refl, (omega arith, tt)))));
  meets = below_five (λ i. brought (master day []).column root_weights i ≡ pos 2 *ℤ (master day []).right i) refl refl refl refl refl;
}

root_good : Each (IsGood (artificial_cost day) (pos 1)) root_prices
unfolding root_prices priced_rows
root_good = ((omega (arith, ints), omega (arith, ints)), ((omega (arith, ints), omega (arith, ints)), ((omega (arith, ints), omega (arith, ints)), ((omega (arith, ints), omega (arith, ints)), (omega (arith, ints), tt)))))

root_value : IsValue (program_of day (rows_in root_prices)) (pos 3) 1
unfolding root_prices priced_rows root_weights
root_value = value_of root_prices root_good (omega (arith, ints)) (omega (arith, ints)) (omega (arith, ints)) (pos 3) root_weights 2 root_solution refl refl

-- ---- few of the first shift
low_prices : List RowPrice
low_prices = priced_rows (rows_of day none) (pos 2 ∷ pos 2 ∷ pos 0 ∷ pos 0 ∷ pos 0 ∷ negsuc 1 ∷ [])

low_weights : List (Weighted MasterKey)
low_weights = of (tree second) 1 ∷ of (tree third) 1 ∷ of (beyond 2) 1 ∷ of (beyond 3) 2 ∷ of (missing 4) 1 ∷ []

low_solution : IsSolution (master day none) low_weights 1
unfolding low_weights
low_solution = record {
  positive = omega arith;
  columns = (day_second, (day_third, (refl, (refl, (omega arith, tt)))));
  meets = below_six (λ i. brought (master day none).column low_weights i ≡ pos 1 *ℤ (master day none).right i) refl refl refl refl refl refl;
}

low_good : Each (IsGood (artificial_cost day) (pos 1)) low_prices
unfolding low_prices priced_rows
low_good = ((omega (arith, ints), omega (arith, ints)), ((omega (arith, ints), omega (arith, ints)), ((omega (arith, ints), omega (arith, ints)), ((omega (arith, ints), omega (arith, ints)), (omega (arith, ints), (omega (arith, ints), tt))))))

low_value : IsValue (program_of day (rows_in low_prices)) (pos 4) 1
unfolding low_prices priced_rows low_weights
low_value = value_of low_prices low_good (omega (arith, ints)) (omega (arith, ints)) (omega (arith, ints)) (pos 4) low_weights 1 low_solution refl refl

-- ---- many of it
high_prices : List RowPrice
high_prices = priced_rows (rows_of day some) (pos 0 ∷ pos 0 ∷ pos 2 ∷ pos 0 ∷ pos 0 ∷ pos 2 ∷ [])

high_weights : List (Weighted MasterKey)
high_weights = of (tree first) 1 ∷ of (tree second) 1 ∷ of (beyond 1) 1 ∷ of (beyond 3) 2 ∷ of (missing 4) 1 ∷ []

high_solution : IsSolution (master day some) high_weights 1
unfolding high_weights
high_solution = record {
  positive = omega arith;
  columns = (day_first, (day_second, (refl, (refl, (omega arith, tt)))));
  meets = below_six (λ i. brought (master day some).column high_weights i ≡ pos 1 *ℤ (master day some).right i) refl refl refl refl refl refl;
}

high_good : Each (IsGood (artificial_cost day) (pos 1)) high_prices
unfolding high_prices priced_rows
high_good = ((omega (arith, ints), omega (arith, ints)), ((omega (arith, ints), omega (arith, ints)), ((omega (arith, ints), omega (arith, ints)), ((omega (arith, ints), omega (arith, ints)), (omega (arith, ints), ((omega (arith, ints), omega (arith, ints)), tt))))))

high_value : IsValue (program_of day (rows_in high_prices)) (pos 4) 1
unfolding high_prices priced_rows high_weights
high_value = value_of high_prices high_good (omega (arith, ints)) (omega (arith, ints)) (omega (arith, ints)) (pos 4) high_weights 1 high_solution refl refl

pub worked_master : WorkedMaster
unfolding root_prices low_prices high_prices
worked_master = record {
  rows = refl;
  root = subst (λ (rows : List Row). IsValue (program_of day rows) (pos 3) 1) (priced_rows-are (rows_of day []) _) root_value;
  low = subst (λ (rows : List Row). IsValue (program_of day rows) (pos 4) 1) (priced_rows-are (rows_of day none) _) low_value;
  high = subst (λ (rows : List Row). IsValue (program_of day rows) (pos 4) 1) (priced_rows-are (rows_of day some) _) high_value;
}
