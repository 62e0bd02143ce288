-- No solution with these weights of trees costs less than the completed one.
use Rattle.std.proofs.Common.{ltb-true, ltb-false, true≢false, ◌≡◌, ℕ, ℤ, zero, suc, arith, pos, neg_ℤ, ◌+ℤ◌, ◌-ℤ◌, ◌*ℤ◌, ◌≤ℤ◌, ◌-◌, ◌*◌, ◌≤◌, ◌<◌, Bool, true, false, cond, List, [], ◌∷◌, ◌++◌, length, refl, sym, ap, ◌∙◌, subst, ◌⊎◌, inl, inr}
use Rattle.std.specs.Prelude.{nat_eq}
use Rattle.std.proofs.lemmas.Int.{ints}
use Rattle.std.proofs.lemmas.Bool.{cases_eq}
use Rattle.model_rosters.specs.declared.instance.Cut.{Cut}
use Rattle.model_rosters.specs.declared.instance.Instance.{Instance}
use Rattle.model_rosters.specs.Trees.{Parts}
use Rattle.model_rosters.specs.Folds.{Each, sum_n, sum_z}
use Rattle.law_bounds.specs.linear_programs.Sums.{dot}
use Rattle.law_bounds.specs.linear_programs.Program.{Program, unit_vector, reduced}
use Rattle.law_bounds.specs.linear_programs.Solution.{Weighted, brought, cost_of, IsSolution, Each as EachKey}
use Rattle.law_bounds.proofs.linear_programs.Duality.{weak_duality}
use Rattle.law_bounds.proofs.linear_programs.Values.{dot_unit}
use Rattle.law_bounds.proofs.linear_programs.Ring.{neg-*ℤ}
use Rattle.law_bounds.specs.BestPrices.{artificial_cost}
use Rattle.law_bounds.specs.master_laws.Rows.{Row, rows_of, number_at, HoldsAt}
use Rattle.law_bounds.specs.master_laws.Master.{MasterKey, missing, beyond, tree, missing_cost, beyond_cost, HasBeyond, column_of, Belongs, master}
use Rattle.law_bounds.proofs.master_laws.Numbers.{times_neg}
use Rattle.law_bounds.proofs.master_laws.RowSums.{total-front, dot_less}
use Rattle.law_bounds.specs.near_laws.Completed.{trees_bring, is_exceeded, own_cost, residual_cost, IsKept, IsOwn, tree_columns}
use Rattle.law_bounds.specs.near_laws.Laws.{AreOutdone}
use Rattle.law_bounds.proofs.master_laws.Ends.{sum_append}
use Rattle.law_bounds.proofs.near_laws.CompletedLemmas.{trees_brought, trees_paid, signed_residual, unit_other}

-- what a joined list has, its end has
each_right : {K : Type 0} (P : K → Type 0) (xs ys : List (Weighted K)) → EachKey P (xs ++ ys) → EachKey P ys
each_right P [] ys h = h
each_right P (x ∷ xs) ys h = each_right P xs ys h.1

each_both : {K : Type 0} (P Q : K → Type 0) (xs : List (Weighted K)) → EachKey P xs → EachKey Q xs → EachKey (λ k. P k × Q k) xs
each_both P Q [] h k = tt
each_both P Q (x ∷ xs) h k = ((h.0, k.0), each_both P Q xs h.1 k.1)

-- ---- numbers of rows
number_le : (f g : Row → ℤ) → ((x : Row) → f x ≤ℤ g x) → (rows : List Row) (j : ℕ) → number_at f rows j ≤ℤ number_at g rows j
number_le f g h [] j = omega (arith, ints)
number_le f g h (x ∷ rows) zero = h x
number_le f g h (x ∷ rows) (suc j) = number_le f g h rows j

number_sum : (f g : Row → ℤ) → ((x : Row) → pos 0 ≤ℤ (f x +ℤ g x)) → (rows : List Row) (j : ℕ) → pos 0 ≤ℤ (number_at f rows j +ℤ number_at g rows j)
number_sum f g h [] j = omega (arith, ints)
number_sum f g h (x ∷ rows) zero = h x
number_sum f g h (x ∷ rows) (suc j) = number_sum f g h rows j

numbers_dot : (f g : Row → ℤ) (rows : List Row) → dot (length rows) (number_at f rows) (number_at g rows) ≡ sum_z (λ x. f x *ℤ g x) rows
numbers_dot f g [] = refl
numbers_dot f g (x ∷ rows) =
    total-front (length rows) (λ i. number_at f (x ∷ rows) i *ℤ number_at g (x ∷ rows) i)
    ∙ ap (λ (z : ℤ). f x *ℤ g x +ℤ z) (numbers_dot f g rows)

module _ (q : ℕ) (ws : List (Weighted Parts)) where
  number_left : (rows : List Row) (j : ℕ) → number_at (signed_residual q ws) rows j ≡ pos q *ℤ number_at (λ (x : Row). pos x.right) rows j -ℤ number_at (λ (x : Row). pos (trees_bring x ws)) rows j
  number_left [] j = omega (arith, ints)
  number_left (x ∷ rows) zero = omega (arith, ints)
  number_left (x ∷ rows) (suc j) = number_left rows j

  -- rows where each that lacks a column for what is beyond has something left are kept
  each_kept : (rows : List Row) → ((r : ℕ) → r < length rows → (HoldsAt HasBeyond rows r → ⊥) → pos 0 ≤ℤ number_at (signed_residual q ws) rows r) → Each (IsKept q ws) rows
  each_kept [] h = tt
  each_kept (x ∷ rows) h = (
    λ e. let a = h 0 (omega arith) (λ t. true≢false (sym t ∙ e)) in omega (arith, ints),
    each_kept rows (λ r b n. h (suc r) (omega arith) n),
  )

  -- ---- prices of the rows at which a residual is worth its cost
  module _ (k : ℕ) where
    price : Row → ℤ
    price x = cond (is_exceeded q ws x) (neg_ℤ (pos (beyond_cost x.sense))) (pos (missing_cost k x.sense))

    price_missing : (x : Row) → price x ≤ℤ pos (missing_cost k x.sense)
    unfolding price
    price_missing x = by (is_exceeded q ws x)
      where
        by : (b : Bool) → cond b (neg_ℤ (pos (beyond_cost x.sense))) (pos (missing_cost k x.sense)) ≤ℤ pos (missing_cost k x.sense)
        by true = omega (arith, ints)
        by false = omega (arith, ints)

    price_beyond : (x : Row) → pos 0 ≤ℤ (pos (beyond_cost x.sense) +ℤ price x)
    unfolding price
    price_beyond x = by (is_exceeded q ws x)
      where
        by : (b : Bool) → pos 0 ≤ℤ (pos (beyond_cost x.sense) +ℤ cond b (neg_ℤ (pos (beyond_cost x.sense))) (pos (missing_cost k x.sense)))
        by true = omega (arith, ints)
        by false = omega (arith, ints)

    worth_over : (c a b : ℕ) → a < b → neg_ℤ (pos c) *ℤ (pos a -ℤ pos b) ≡ pos ((b - a) * c)
    worth_over c a b h =
        let n = b - a in
        let e : pos a -ℤ pos b ≡ neg_ℤ (pos n) = omega (arith, ints) in
        let f : pos c *ℤ pos n ≡ pos (n * c) = omega (arith, ints) in
        let g : neg_ℤ (neg_ℤ (pos c *ℤ pos n)) ≡ pos c *ℤ pos n = omega (arith, ints) in
        rw e (times_neg (neg_ℤ (pos c)) (pos n) ∙ ap neg_ℤ (neg-*ℤ (pos c) (pos n)) ∙ g ∙ f)

    worth_under : (c a b : ℕ) → b ≤ a → pos c *ℤ (pos a -ℤ pos b) ≡ pos ((a - b) * c)
    worth_under c a b h =
        let n = a - b in
        let e : pos a -ℤ pos b ≡ pos n = omega (arith, ints) in
        let f : pos c *ℤ pos n ≡ pos (n * c) = omega (arith, ints) in
        rw e f

    price_worth : (x : Row) → price x *ℤ signed_residual q ws x ≡ pos (residual_cost k q ws x)
    unfolding price
    price_worth x = by (is_exceeded q ws x) refl
      where
        by : (b : Bool) → is_exceeded q ws x ≡ b → cond b (neg_ℤ (pos (beyond_cost x.sense))) (pos (missing_cost k x.sense)) *ℤ signed_residual q ws x
            ≡ pos (cond b (trees_bring x ws - q * x.right) (q * x.right - trees_bring x ws) * own_cost k b x)
        by true e = worth_over (beyond_cost x.sense) (q * x.right) (trees_bring x ws) (ltb-true (q * x.right) (trees_bring x ws) e)
        by false e = worth_under (missing_cost k x.sense) (q * x.right) (trees_bring x ws) (ltb-false (q * x.right) (trees_bring x ws) e)

    rows_worth : (rows : List Row) → sum_z (λ (x : Row). price x *ℤ signed_residual q ws x) rows ≡ pos (sum_n (residual_cost k q ws) rows)
    rows_worth [] = refl
    rows_worth (x ∷ rows) = let a = price_worth x in let b = rows_worth rows in omega (arith, ints)

module _ (i : Instance) (cuts : List Cut) (ws : List (Weighted Parts)) (q : ℕ) (own : List (Weighted MasterKey)) (owned : EachKey IsOwn own) (solution : IsSolution (master i cuts) (tree_columns ws ++ own) q) where
  abbrev all : List Row
  all = rows_of i cuts

  abbrev k : ℕ
  k = artificial_cost i

  belong : EachKey (Belongs i all) own
  belong = each_right (Belongs i all) (tree_columns ws) own solution.columns

  -- they bring the residuals
  own_left : (j : ℕ) → j < length all → brought (column_of i k all) own j ≡ number_at (signed_residual q ws) all j
  own_left j h =
      let a = sum_append (λ m. (column_of i k all m).entry j) (tree_columns ws) own in
      let b = trees_brought i k all ws j in
      let c = solution.meets j h in
      let d = number_left q ws all j in
      omega (arith, ints)

  -- the program of the rows' own columns alone, whose right sides are the residuals
  abbrev rest : Program MasterKey
  rest = record {
    rows = length all;
    right = number_at (signed_residual q ws) all;
    unit = missing;
    column = column_of i k all;
    belongs = λ m. IsOwn m × Belongs i all m;
  }

  rest_solved : IsSolution rest own 1
  rest_solved = record {
    positive = omega arith;
    columns = each_both IsOwn (Belongs i all) own owned belong;
    meets = λ j h. own_left j h ∙ omega (arith, ints);
  }

  abbrev y : ℕ → ℤ
  y = number_at (price q ws k) all

  holds_below : (rows : List Row) (r : ℕ) → HoldsAt HasBeyond rows r → r < length rows
  holds_below [] r h = absurd h
  holds_below (x ∷ rows) zero h = omega arith
  holds_below (x ∷ rows) (suc r) h = omega (arith, holds_below rows r h)

  out : (m : MasterKey) → IsOwn m × Belongs i all m → pos 0 ≤ℤ reduced (length all) y (pos 1) (column_of i k all m)
  out (missing r) h =
      let e = dot_unit (length all) r y h.1 in
      let a = number_le (price q ws k) (λ (x : Row). pos (missing_cost k x.sense)) (price_missing q ws k) all r in
      omega (arith, ints)
  out (beyond r) h =
      let e = dot_less (length all) r y (holds_below all r h.1) in
      let a = number_sum (λ (x : Row). pos (beyond_cost x.sense)) (price q ws k) (price_beyond q ws k) all r in
      omega (arith, ints)
  out (tree t) h = absurd h.0

  own_least : pos (sum_n (residual_cost k q ws) all) ≤ℤ cost_of (column_of i k all) own
  own_least =
      let w = weak_duality rest y (pos 1) out own 1 rest_solved in
      let e = numbers_dot (price q ws k) (signed_residual q ws) all ∙ rows_worth q ws k all in
      omega (arith, ints)

  -- ---- what the rows without a column for what is beyond get
  entry_some : (m : MasterKey) (n r : ℕ) → IsOwn m → Belongs i all m → (HoldsAt HasBeyond all r → ⊥) → pos 0 ≤ℤ (pos n *ℤ (column_of i k all m).entry r)
  entry_some (missing s) n r o b h = by (nat_eq s r)
    where
      by : (b : Bool) → pos 0 ≤ℤ (pos n *ℤ cond b (pos 1) (pos 0))
      by true = omega (arith, ints)
      by false = omega (arith, ints)
  entry_some (beyond s) n r o b h = by (cases_eq s r)
    where
      by : (s ≡ r) ⊎ (s ≡ r → ⊥) → pos 0 ≤ℤ (pos n *ℤ neg_ℤ (unit_vector s r))
      by (inl e) = absurd (h (subst (HoldsAt HasBeyond all) e b))
      by (inr e) = rw (unit_other s r e) (omega (arith, ints))
  entry_some (tree t) n r o b h = absurd o

  some_brought : (vs : List (Weighted MasterKey)) → EachKey IsOwn vs → EachKey (Belongs i all) vs → (r : ℕ) → (HoldsAt HasBeyond all r → ⊥) → pos 0 ≤ℤ brought (column_of i k all) vs r
  some_brought [] o b r h = omega (arith, ints)
  some_brought (v ∷ vs) o b r h =
      let a = entry_some v.key v.weight r o.0 b.0 h in
      let c = some_brought vs o.1 b.1 r h in
      omega (arith, ints)

  pub outdone : AreOutdone i cuts ws q own
  outdone = record {
    kept = each_kept q ws all (λ r b h. subst (λ (z : ℤ). pos 0 ≤ℤ z) (own_left r b) (some_brought own owned belong r h));
    cost =
        let a = sum_append (λ m. (column_of i k all m).cost) (tree_columns ws) own in
        let b = trees_paid i k all ws in
        let c = own_least in
        omega (arith, ints);
  }
