-- Weights of trees with the columns that take the rows' residuals are a solution.
use Rattle.std.proofs.Common.{ltb-true, ltb-false, ◌≡◌, ℕ, ℤ, zero, suc, arith, pos, ◌+ℤ◌, ◌-ℤ◌, ◌*ℤ◌, ◌+◌, ◌-◌, ◌*◌, ◌<◌, Bool, true, false, cond, List, [], ◌∷◌, ◌++◌, length, refl, sym, ap, ◌∙◌, subst}
use Rattle.std.proofs.lemmas.Int.{ints}
use Rattle.std.proofs.lemmas.Bool.{eq-eqb, ne_eqb}
use Rattle.model_rosters.specs.declared.instance.Cut.{Cut}
use Rattle.model_rosters.specs.declared.instance.Instance.{Instance}
use Rattle.model_rosters.specs.Trees.{Parts, IsDayTree}
use Rattle.model_rosters.specs.Folds.{Each, sum_n}
use Rattle.law_bounds.specs.linear_programs.Program.{unit_vector}
use Rattle.law_bounds.specs.linear_programs.Solution.{Weighted, weighted_sum, brought, cost_of, Each as EachKey}
use Rattle.law_bounds.specs.BestPrices.{artificial_cost}
use Rattle.law_bounds.specs.master_laws.Rows.{Row, rows_of, number_at, HoldsAt}
use Rattle.law_bounds.specs.master_laws.Master.{missing_cost, beyond_cost, has_beyond, HasBeyond, column_of, Belongs}
use Rattle.law_bounds.specs.near_laws.Completed.{trees_bring, weighted_cost, is_exceeded, residual, own_key, own_cost, residual_cost, IsKept, tree_columns, own_columns}
use Rattle.law_bounds.specs.near_laws.Laws.{IsCompleted}
use Rattle.law_bounds.proofs.master_laws.Ends.{sum_append, each_append}

-- ---- numbers of rows
number_same : (f g : Row → ℤ) → ((x : Row) → f x ≡ g x) → (rows : List Row) (j : ℕ) → number_at f rows j ≡ number_at g rows j
number_same f g h [] j = refl
number_same f g h (x ∷ rows) zero = h x
number_same f g h (x ∷ rows) (suc j) = number_same f g h rows j

number_none : (rows : List Row) (j : ℕ) → number_at (λ x. pos 0) rows j ≡ pos 0
number_none [] j = refl
number_none (x ∷ rows) zero = refl
number_none (x ∷ rows) (suc j) = number_none rows j

number_add : (f g : Row → ℤ) (rows : List Row) (j : ℕ) → number_at (λ x. f x +ℤ g x) rows j ≡ number_at f rows j +ℤ number_at g rows j
number_add f g [] j = refl
number_add f g (x ∷ rows) zero = refl
number_add f g (x ∷ rows) (suc j) = number_add f g rows j

number_scale : (k : ℤ) (f : Row → ℤ) (rows : List Row) (j : ℕ) → number_at (λ x. k *ℤ f x) rows j ≡ k *ℤ number_at f rows j
number_scale k f [] j = omega (arith, ints)
number_scale k f (x ∷ rows) zero = refl
number_scale k f (x ∷ rows) (suc j) = number_scale k f rows j

-- ---- the trees
each_tree : (i : Instance) (rows : List Row) (ws : List (Weighted Parts)) → EachKey (IsDayTree i.grammar) ws → EachKey (Belongs i rows) (tree_columns ws)
each_tree i rows [] h = tt
each_tree i rows (w ∷ ws) h = (h.0, each_tree i rows ws h.1)

module _ (i : Instance) (k : ℕ) (all : List Row) where
  pub trees_brought : (ws : List (Weighted Parts)) (j : ℕ) → brought (column_of i k all) (tree_columns ws) j ≡ number_at (λ (x : Row). pos (trees_bring x ws)) all j
  trees_brought [] j = sym (number_none all j)
  trees_brought (w ∷ ws) j =
      ap (λ (z : ℤ). pos w.weight *ℤ number_at (λ (x : Row). pos (x.brings w.key)) all j +ℤ z) (trees_brought ws j)
      ∙ ap (λ (z : ℤ). z +ℤ number_at (λ (x : Row). pos (trees_bring x ws)) all j) (sym (number_scale (pos w.weight) (λ (x : Row). pos (x.brings w.key)) all j))
      ∙ sym (number_add (λ (x : Row). pos w.weight *ℤ pos (x.brings w.key)) (λ (x : Row). pos (trees_bring x ws)) all j)

  pub trees_paid : (ws : List (Weighted Parts)) → cost_of (column_of i k all) (tree_columns ws) ≡ pos (weighted_cost i ws)
  trees_paid [] = refl
  trees_paid (w ∷ ws) = omega (arith, ints, trees_paid ws)

-- ---- the rows' own columns
-- what a residual adds to its row
abbrev pub signed_residual : ℕ → List (Weighted Parts) → Row → ℤ
signed_residual q ws x = pos (q * x.right) -ℤ pos (trees_bring x ws)

pub unit_same : (r : ℕ) → unit_vector r r ≡ pos 1
unit_same r = rw (eq-eqb r r refl) refl

pub unit_other : (r j : ℕ) → (r ≡ j → ⊥) → unit_vector r j ≡ pos 0
unit_other r j h = rw (ne_eqb r j h) refl

-- the rows from place r on of all rows
record IsTail (all : List Row) (r : ℕ) (rows : List Row) : Type 0 where
  number : (f : Row → ℤ) (j : ℕ) → number_at f all (r + j) ≡ number_at f rows j
  beyond : (j : ℕ) → HoldsAt HasBeyond rows j → HoldsAt HasBeyond all (r + j)
  within : r + length rows ≡ length all

whole : (all : List Row) → IsTail all 0 all
whole all = record {
  number = λ f j. ap (number_at f all) (omega arith);
  beyond = λ j h. let e : j ≡ 0 + j = omega arith in subst (HoldsAt HasBeyond all) e h;
  within = omega arith;
}

next : (all : List Row) (r : ℕ) (x : Row) (rows : List Row) → IsTail all r (x ∷ rows) → IsTail all (suc r) rows
next all r x rows t = record {
  number = λ f j. ap (number_at f all) (omega arith) ∙ t.number f (suc j);
  beyond = λ j h. let e : r + suc j ≡ suc r + j = omega arith in subst (HoldsAt HasBeyond all) e (t.beyond (suc j) h);
  within = omega (arith, t.within);
}

module _ (i : Instance) (k q : ℕ) (ws : List (Weighted Parts)) (all : List Row) where
  -- what the own column of row r adds to the rows
  own_entry : (x : Row) (r : ℕ) → pos (residual q ws x) *ℤ (column_of i k all (own_key (is_exceeded q ws x) r)).entry r ≡ signed_residual q ws x
  own_entry x r = by (is_exceeded q ws x) refl
    where
      by : (b : Bool) → is_exceeded q ws x ≡ b → pos (cond b (trees_bring x ws - q * x.right) (q * x.right - trees_bring x ws)) *ℤ (column_of i k all (own_key b r)).entry r ≡ signed_residual q ws x
      by true e = let l = ltb-true (q * x.right) (trees_bring x ws) e in rw (unit_same r) (omega (arith, ints))
      by false e = let l = ltb-false (q * x.right) (trees_bring x ws) e in rw (unit_same r) (omega (arith, ints))

  other_entry : (x : Row) (r j : ℕ) → (r ≡ j → ⊥) → pos (residual q ws x) *ℤ (column_of i k all (own_key (is_exceeded q ws x) r)).entry j ≡ pos 0
  other_entry x r j h = by (is_exceeded q ws x) (residual q ws x)
    where
      by : (b : Bool) (n : ℕ) → pos n *ℤ (column_of i k all (own_key b r)).entry j ≡ pos 0
      by true n = rw (unit_other r j h) (omega (arith, ints))
      by false n = rw (unit_other r j h) (omega (arith, ints))

  -- rows from r on add nothing before r
  own_before : (rows : List Row) (r j : ℕ) → j < r → brought (column_of i k all) (own_columns q ws r rows) j ≡ pos 0
  own_before [] r j h = refl
  own_before (x ∷ rows) r j h =
      let a = other_entry x r j (λ e. omega arith) in
      let b = own_before rows (suc r) j (omega arith) in
      omega (arith, ints)

  own_brought : (rows : List Row) (r j : ℕ) → brought (column_of i k all) (own_columns q ws r rows) (r + j) ≡ number_at (signed_residual q ws) rows j
  own_brought [] r j = refl
  own_brought (x ∷ rows) r zero =
      let e : r + 0 ≡ r = omega arith in
      let a = own_entry x r in
      let b = own_before rows (suc r) r (omega arith) in
      ap (brought (column_of i k all) (own_columns q ws r (x ∷ rows))) e ∙ omega (arith, ints)
  own_brought (x ∷ rows) r (suc j) =
      let a = other_entry x r (r + suc j) (λ e. omega arith) in
      let e : suc r + j ≡ r + suc j = omega arith in
      let b = rw e at (own_brought rows (suc r) j) in
      omega (arith, ints)

  each_own : (rows : List Row) (r : ℕ) → IsTail all r rows → Each (IsKept q ws) rows → EachKey (Belongs i all) (own_columns q ws r rows)
  each_own [] r t h = tt
  each_own (x ∷ rows) r t h = (by (is_exceeded q ws x) refl, each_own rows (suc r) (next all r x rows t) h.1)
    where
      has : (b : Bool) → has_beyond x.sense ≡ b → q * x.right < trees_bring x ws → has_beyond x.sense ≡ true
      has true e l = e
      has false e l = let m = h.0 e in absurd (omega arith)

      by : (b : Bool) → is_exceeded q ws x ≡ b → Belongs i all (own_key b r)
      by true e =
          let l = ltb-true (q * x.right) (trees_bring x ws) e in
          let z : r + 0 ≡ r = omega arith in
          subst (HoldsAt HasBeyond all) z (t.beyond 0 (has (has_beyond x.sense) refl l))
      by false e = let w = t.within in omega arith

  own_paid : (rows : List Row) (r : ℕ) → IsTail all r rows → cost_of (column_of i k all) (own_columns q ws r rows) ≡ pos (sum_n (residual_cost k q ws) rows)
  own_paid [] r t = refl
  own_paid (x ∷ rows) r t =
      let a = by (is_exceeded q ws x) in
      let b = own_paid rows (suc r) (next all r x rows t) in
      ap (λ (z : ℤ). pos (residual q ws x) *ℤ z +ℤ cost_of (column_of i k all) (own_columns q ws (suc r) rows)) a
      ∙ omega (arith, ints)
    where
      by : (b : Bool) → (column_of i k all (own_key b r)).cost ≡ pos (own_cost k b x)
      by true = let z : r ≡ r + 0 = omega arith in ap (number_at (λ (y : Row). pos (beyond_cost y.sense)) all) z ∙ t.number (λ (y : Row). pos (beyond_cost y.sense)) 0
      by false = let z : r ≡ r + 0 = omega arith in ap (number_at (λ (y : Row). pos (missing_cost k y.sense)) all) z ∙ t.number (λ (y : Row). pos (missing_cost k y.sense)) 0

pub completed_solves : (i : Instance) (cuts : List Cut) (ws : List (Weighted Parts)) (q : ℕ) → 0 < q → EachKey (IsDayTree i.grammar) ws → Each (IsKept q ws) (rows_of i cuts) → IsCompleted i cuts ws q
completed_solves i cuts ws q some days kept =
    let all = rows_of i cuts in
    let k = artificial_cost i in
    record {
      solution = record {
        positive = some;
        columns = each_append (Belongs i all) (tree_columns ws) (own_columns q ws 0 all) (each_tree i all ws days) (each_own i k q ws all all 0 (whole all) kept);
        meets = λ j h.
            sum_append (λ m. (column_of i k all m).entry j) (tree_columns ws) (own_columns q ws 0 all)
            ∙ ap (λ (z : ℤ). z +ℤ brought (column_of i k all) (own_columns q ws 0 all) j) (trees_brought i k all ws j)
            ∙ ap (λ (z : ℤ). number_at (λ (x : Row). pos (trees_bring x ws)) all j +ℤ z) (own_at j)
            ∙ sym (number_add (λ (x : Row). pos (trees_bring x ws)) (signed_residual q ws) all j)
            ∙ number_same (λ (x : Row). pos (trees_bring x ws) +ℤ signed_residual q ws x) (λ (x : Row). pos q *ℤ pos x.right) (λ x. omega (arith, ints)) all j
            ∙ number_scale (pos q) (λ (x : Row). pos x.right) all j;
      };
      cost =
          sum_append (λ m. (column_of i k all m).cost) (tree_columns ws) (own_columns q ws 0 all)
          ∙ (let a = trees_paid i k all ws in let b = own_paid i k q ws all all 0 (whole all) in omega (arith, ints));
    }
  where
    own_at : (j : ℕ) → brought (column_of i (artificial_cost i) (rows_of i cuts)) (own_columns q ws 0 (rows_of i cuts)) j ≡ number_at (signed_residual q ws) (rows_of i cuts) j
    own_at j = let e : 0 + j ≡ j = omega arith in rw e at (own_brought i (artificial_cost i) q ws (rows_of i cuts) (rows_of i cuts) 0 j)
