-- The trees of a solution, each as often as its weight says, and what they bring to the rows.
use Rattle.std.proofs.Common.{true≢false, ◌≡◌, ℕ, ℤ, zero, suc, arith, pos, negsuc, neg_ℤ, ◌+ℤ◌, ◌-ℤ◌, ◌*ℤ◌, ◌≤ℤ◌, ◌+◌, ◌*◌, ◌≤◌, ◌<◌, Bool, true, false, cond, List, [], ◌∷◌, length, refl, sym, ap, ◌∙◌, subst, inl, inr}
use Rattle.std.specs.Prelude.{nat_eq}
use Rattle.std.proofs.lemmas.Int.{ints}
use Rattle.std.proofs.lemmas.Bool.{eqb-true}
use Rattle.model_rosters.specs.declared.grammar.ArcKey.{ArcKey}
use Rattle.model_rosters.specs.declared.instance.Cell.{Cell}
use Rattle.model_rosters.specs.declared.instance.Instance.{Instance}
use Rattle.model_rosters.specs.Trees.{Parts, IsDayTree}
use Rattle.model_rosters.specs.Folds.{sum_z, sum_n, Each}
use Rattle.model_rosters.specs.Arcs.{letters, arcs, same_arc}
use Rattle.model_rosters.specs.Coverage.{is_at}
use Rattle.model_rosters.specs.Cuts.{arcs_of, arc_count}
use Rattle.model_rosters.specs.arc_laws.TreeLists.{letters_of}
use Rattle.model_rosters.proofs.arc_laws.FoldsLemmas.{count-append}
use Rattle.law_bounds.specs.TreeRosters.{tree_cover}
use Rattle.law_bounds.specs.linear_programs.Program.{reduced}
use Rattle.law_bounds.specs.linear_programs.Sums.{dot}
use Rattle.law_bounds.specs.linear_programs.Solution.{Weighted, brought, cost_of, Uses}
use Rattle.law_bounds.specs.linear_programs.Solution.{Each as EachKey}
use Rattle.law_bounds.proofs.linear_programs.Ring.{mul_nonneg, *ℤ-+ℤ, *ℤ--ℤ}
use Rattle.law_bounds.proofs.linear_programs.Totals.{dot-add_right, dot-scale_right, dot-zero_right}
use Rattle.law_bounds.proofs.linear_programs.Duality.{swapped}
use Rattle.law_bounds.specs.master_laws.Rows.{at_least, at_most, Row, number_at, HoldsAt, cell_count, tree_arcs}
use Rattle.law_bounds.specs.master_laws.Master.{MasterKey, missing, beyond, tree, has_beyond, HasBeyond, is_artificial, IsArtificial, column_of, Belongs}
use Rattle.law_bounds.specs.master_laws.Sharp.{arcs_in, arc_weight}

-- n copies of a tree before others
abbrev pub repeat : ℕ → Parts → List Parts → List Parts
repeat zero t us = us
repeat (suc n) t us = t ∷ repeat n t us

abbrev pub with : MasterKey → ℕ → List Parts → List Parts
with (missing r) n us = us
with (beyond r) n us = us
with (tree t) n us = repeat n t us

abbrev pub copies : List (Weighted MasterKey) → List Parts
copies [] = []
copies (w ∷ ws) = with w.key w.weight (copies ws)

-- ---- sums over copies
repeat_sum : (f : Parts → ℤ) (n : ℕ) (t : Parts) (us : List Parts) → sum_z f (repeat n t us) ≡ pos n *ℤ f t +ℤ sum_z f us
repeat_sum f zero t us = omega (arith, ints)
repeat_sum f (suc n) t us =
    let e : pos (suc n) *ℤ f t ≡ f t +ℤ pos n *ℤ f t = one_more n (f t) in
    omega (arith, ints, repeat_sum f n t us)
  where
    one_more : (n : ℕ) (z : ℤ) → pos (suc n) *ℤ z ≡ z +ℤ pos n *ℤ z
    one_more n (pos z) = omega (arith, ints)
    one_more n (negsuc z) = omega (arith, ints)

repeat_each : (P : Parts → Type 0) (n : ℕ) (t : Parts) (us : List Parts) → P t → Each P us → Each P (repeat n t us)
repeat_each P zero t us h e = e
repeat_each P (suc n) t us h e = (h, repeat_each P n t us h e)

pub copies_day : (i : Instance) (rows : List Row) (ws : List (Weighted MasterKey)) → EachKey (Belongs i rows) ws → Each (IsDayTree i.grammar) (copies ws)
copies_day i rows [] h = tt
copies_day i rows (w ∷ ws) h = by w.key h.0 (copies_day i rows ws h.1)
  where
    by : (k : MasterKey) → Belongs i rows k → Each (IsDayTree i.grammar) (copies ws) → Each (IsDayTree i.grammar) (with k w.weight (copies ws))
    by (missing r) b e = e
    by (beyond r) b e = e
    by (tree t) b e = repeat_each (IsDayTree i.grammar) w.weight t (copies ws) b e

-- ---- counts of arcs and letters
repeat_arcs : (a : ArcKey) (n : ℕ) (t : Parts) (us : List Parts) → arc_count a (repeat n t us) ≡ n * tree_arcs a t + arc_count a us
repeat_arcs a zero t us = omega arith
repeat_arcs a (suc n) t us = let c = count-append (same_arc a) (arcs 1 t) (arcs_of (repeat n t us)) in omega (arith, repeat_arcs a n t us)

pub copies_arcs : (a : ArcKey) (ws : List (Weighted MasterKey)) → arc_count a (copies ws) ≡ arc_weight a ws
copies_arcs a [] = refl
copies_arcs a (w ∷ ws) = by w.key (copies_arcs a ws)
  where
    by : (k : MasterKey) → arc_count a (copies ws) ≡ arc_weight a ws → arc_count a (with k w.weight (copies ws)) ≡ w.weight * arcs_in a k + arc_weight a ws
    by (missing r) e = omega (arith, e)
    by (beyond r) e = omega (arith, e)
    by (tree t) e = omega (arith, e, repeat_arcs a w.weight t (copies ws))

pub sum_arcs : (a : ArcKey) (us : List Parts) → sum_n (tree_arcs a) us ≡ arc_count a us
sum_arcs a [] = refl
sum_arcs a (u ∷ us) = let c = count-append (same_arc a) (arcs 1 u) (arcs_of us) in omega (arith, sum_arcs a us)

pub sum_cover : (c : Cell) (us : List Parts) → sum_n (cell_count c) us ≡ tree_cover us c
sum_cover c [] = refl
sum_cover c (u ∷ us) = let e = count-append (is_at c) (letters 1 u) (letters_of us) in omega (arith, sum_cover c us)

pub sum_ones : (us : List Parts) → sum_n (λ t. 1) us ≡ length us
sum_ones [] = refl
sum_ones (u ∷ us) = omega (arith, sum_ones us)

-- ---- row r of a list
abbrev pub IsRow : List Row → ℕ → Row → Type 0
IsRow [] r x = ⊥
IsRow (y ∷ rows) zero x = y ≡ x
IsRow (y ∷ rows) (suc r) x = IsRow rows r x

row_number : (f : Row → ℤ) (rows : List Row) (r : ℕ) (x : Row) → IsRow rows r x → number_at f rows r ≡ f x
row_number f [] r x h = absurd h
row_number f (y ∷ rows) zero x h = ap f h
row_number f (y ∷ rows) (suc r) x h = row_number f rows r x h

row_holds : (P : Row → Type 0) (rows : List Row) (r : ℕ) (x : Row) → IsRow rows r x → P x → HoldsAt P rows r
row_holds P [] r x h p = absurd h
row_holds P (y ∷ rows) zero x h p = subst P (sym h) p
row_holds P (y ∷ rows) (suc r) x h p = row_holds P rows r x h p

row_held : (P : Row → Type 0) (rows : List Row) (r : ℕ) (x : Row) → IsRow rows r x → HoldsAt P rows r → P x
row_held P [] r x h p = absurd h
row_held P (y ∷ rows) zero x h p = subst P h p
row_held P (y ∷ rows) (suc r) x h p = row_held P rows r x h p

pub each_row : (P : Row → Type 0) (rows : List Row) → ((r : ℕ) (x : Row) → r < length rows → IsRow rows r x → P x) → Each P rows
each_row P [] h = tt
each_row P (x ∷ rows) h = (h zero x (omega arith) refl, each_row P rows (λ r y l k. h (suc r) y (omega arith) k))

-- ---- what solutions bring to a row
no_less : (n : ℕ) (b : Bool) → pos 0 ≤ℤ (pos n *ℤ cond b (pos 1) (pos 0))
no_less n true = omega (arith, ints)
no_less n false = omega (arith, ints)

no_more : (n : ℕ) (b : Bool) → (pos n *ℤ neg_ℤ (cond b (pos 1) (pos 0))) ≤ℤ pos 0
no_more zero true = omega (arith, ints)
no_more (suc n) true = omega (arith, ints)
no_more n false = omega (arith, ints)

module _ (i : Instance) (k : ℕ) (rows : List Row) (r : ℕ) (x : Row) (is : IsRow rows r x) where
  trees_at : List Parts → ℤ
  trees_at us = sum_z (λ t. number_at (λ (y : Row). pos (y.brings t)) rows r) us

  tree_first : (n : ℕ) (t : Parts) (us : List Parts) → trees_at (repeat n t us) ≡ pos n *ℤ number_at (λ (y : Row). pos (y.brings t)) rows r +ℤ trees_at us
  unfolding trees_at
  tree_first n t us = repeat_sum (λ t. number_at (λ (y : Row). pos (y.brings t)) rows r) n t us

  -- where a row asks at most its right side, no column but its slack is apart from the trees
  at_most_brings : x.sense ≡ at_most → (ws : List (Weighted MasterKey)) → EachKey (Belongs i rows) ws → trees_at (copies ws) ≤ℤ brought (column_of i k rows) ws r
  unfolding trees_at
  at_most_brings e [] h = omega (arith, ints)
  at_most_brings e (w ∷ ws) h = by w.key h.0 (at_most_brings e ws h.1)
    where
      apart : (s : ℕ) → HoldsAt HasBeyond rows s → (b : Bool) → nat_eq s r ≡ b → pos w.weight *ℤ neg_ℤ (cond b (pos 1) (pos 0)) ≡ pos 0
      apart s b false q = omega (arith, ints)
      apart s b true q =
          let m = eqb-true s r q in
          let held = row_held HasBeyond rows r x is (subst (λ n. HoldsAt HasBeyond rows n) m b) in
          absurd (true≢false (sym held ∙ ap has_beyond e))

      by : (key : MasterKey) → Belongs i rows key → trees_at (copies ws) ≤ℤ brought (column_of i k rows) ws r
          → trees_at (with key w.weight (copies ws)) ≤ℤ (pos w.weight *ℤ (column_of i k rows key).entry r +ℤ brought (column_of i k rows) ws r)
      by (missing s) b q = let z = no_less w.weight (nat_eq s r) in omega (arith, ints)
      by (beyond s) b q = let z = apart s b (nat_eq s r) refl in omega (arith, ints)
      by (tree t) b q = let f = tree_first w.weight t (copies ws) in omega (arith, ints)

  -- where it asks at least its right side, and no artificial column is used
  at_least_brings : x.sense ≡ at_least → (ws : List (Weighted MasterKey)) → (Uses ws (missing r) → ⊥) → brought (column_of i k rows) ws r ≤ℤ trees_at (copies ws)
  unfolding trees_at
  at_least_brings e [] none = omega (arith, ints)
  at_least_brings e (w ∷ ws) none = by w.key refl (at_least_brings e ws (λ u. none (inr u)))
    where
      unused : (s : ℕ) → w.key ≡ missing s → (b : Bool) → nat_eq s r ≡ b → (n : ℕ) → w.weight ≡ n → pos n *ℤ cond b (pos 1) (pos 0) ≡ pos 0
      unused s q false m n l = omega (arith, ints)
      unused s q true m zero l = omega (arith, ints)
      unused s q true m (suc n) l = absurd (none (inl (q ∙ ap missing (eqb-true s r m), omega arith)))

      by : (key : MasterKey) → w.key ≡ key → brought (column_of i k rows) ws r ≤ℤ trees_at (copies ws)
          → (pos w.weight *ℤ (column_of i k rows key).entry r +ℤ brought (column_of i k rows) ws r) ≤ℤ trees_at (with key w.weight (copies ws))
      by (missing s) q l = let z = unused s q (nat_eq s r) refl w.weight refl in omega (arith, ints)
      by (beyond s) q l = let z = no_more w.weight (nat_eq s r) in omega (arith, ints)
      by (tree t) q l = let f = tree_first w.weight t (copies ws) in omega (arith, ints)

  trees_bring : (us : List Parts) → trees_at us ≡ pos (sum_n x.brings us)
  unfolding trees_at
  trees_bring [] = refl
  trees_bring (u ∷ us) = let a = row_number (λ (y : Row). pos (y.brings u)) rows r x is in omega (arith, ints, trees_bring us)

  pub most_kept : x.sense ≡ at_most → (ws : List (Weighted MasterKey)) (q : ℕ) → EachKey (Belongs i rows) ws → brought (column_of i k rows) ws r ≡ pos q *ℤ number_at (λ (y : Row). pos y.right) rows r
      → sum_n x.brings (copies ws) ≤ q * x.right
  most_kept e ws q h met =
      let a = at_most_brings e ws h in
      let b = trees_bring (copies ws) in
      let c = row_number (λ (y : Row). pos y.right) rows r x is in
      let d : pos q *ℤ number_at (λ (y : Row). pos y.right) rows r ≡ pos (q * x.right) = ap (λ (z : ℤ). pos q *ℤ z) c in
      omega (arith, ints)

  pub least_kept : x.sense ≡ at_least → (ws : List (Weighted MasterKey)) (q : ℕ) → (Uses ws (missing r) → ⊥) → brought (column_of i k rows) ws r ≡ pos q *ℤ number_at (λ (y : Row). pos y.right) rows r
      → q * x.right ≤ sum_n x.brings (copies ws)
  least_kept e ws q none met =
      let a = at_least_brings e ws none in
      let b = trees_bring (copies ws) in
      let c = row_number (λ (y : Row). pos y.right) rows r x is in
      let d : pos q *ℤ number_at (λ (y : Row). pos y.right) rows r ≡ pos (q * x.right) = ap (λ (z : ℤ). pos q *ℤ z) c in
      omega (arith, ints)

  pub artificial_at : x.sense ≡ at_least → HoldsAt IsArtificial rows r
  artificial_at e = row_holds IsArtificial rows r x is (ap is_artificial e)

-- ---- what the columns that are no trees cost at least
module _ (i : Instance) (k : ℕ) (rows : List Row) (y : ℕ → ℤ) (kappa : ℤ) where
  abbrev pub red_of : MasterKey → ℤ
  red_of key = reduced (length rows) y kappa (column_of i k rows key)

  -- one more column
  one_column : (key : MasterKey) (n : ℕ) (ws : List (Weighted MasterKey)) (s : ℤ) → (s +ℤ dot (length rows) y (brought (column_of i k rows) ws)) ≤ℤ (kappa *ℤ cost_of (column_of i k rows) ws)
      → (pos n *ℤ red_of key +ℤ s +ℤ dot (length rows) y (λ j. pos n *ℤ (column_of i k rows key).entry j +ℤ brought (column_of i k rows) ws j)) ≤ℤ (kappa *ℤ (pos n *ℤ (column_of i k rows key).cost +ℤ cost_of (column_of i k rows) ws))
  one_column key n ws s h =
      let c = column_of i k rows key in
      let a = dot-add_right (length rows) y (λ j. pos n *ℤ c.entry j) (brought (column_of i k rows) ws) in
      let b = dot-scale_right (length rows) (pos n) y c.entry in
      let d = *ℤ-+ℤ kappa (pos n *ℤ c.cost) (cost_of (column_of i k rows) ws) in
      let e = swapped n kappa c.cost in
      let f = *ℤ--ℤ (pos n) (kappa *ℤ c.cost) (dot (length rows) y c.entry) in
      finish (pos n *ℤ red_of key) s (dot (length rows) y (brought (column_of i k rows) ws)) (kappa *ℤ cost_of (column_of i k rows) ws) (pos n *ℤ dot (length rows) y c.entry) (pos n *ℤ (kappa *ℤ c.cost)) _ _ f h (a ∙ ap (λ (z : ℤ). z +ℤ dot (length rows) y (brought (column_of i k rows) ws)) b) (d ∙ ap (λ (z : ℤ). z +ℤ kappa *ℤ cost_of (column_of i k rows) ws) (sym e))
    where
      finish : (R s D C E K V W : ℤ) → R ≡ K -ℤ E → (s +ℤ D) ≤ℤ C → V ≡ E +ℤ D → W ≡ K +ℤ C → (R +ℤ s +ℤ V) ≤ℤ W
      finish R s D C E K V W f h a d = omega (arith, ints)

  pub trees_reduced : ((r : ℕ) → r < length rows → pos 0 ≤ℤ red_of (missing r)) → ((r : ℕ) → HoldsAt HasBeyond rows r → pos 0 ≤ℤ red_of (beyond r))
      → (ws : List (Weighted MasterKey)) → EachKey (Belongs i rows) ws
      → (sum_z (λ t. red_of (tree t)) (copies ws) +ℤ dot (length rows) y (brought (column_of i k rows) ws)) ≤ℤ (kappa *ℤ cost_of (column_of i k rows) ws)
  trees_reduced first second [] h = let z = dot-zero_right (length rows) y in omega (arith, ints)
  trees_reduced first second (w ∷ ws) h = by w.key h.0 (trees_reduced first second ws h.1)
    where
      drop_first : (p s V W : ℤ) → pos 0 ≤ℤ p → (p +ℤ s +ℤ V) ≤ℤ W → (s +ℤ V) ≤ℤ W
      drop_first p s V W h l = omega (arith, ints)

      by : (key : MasterKey) → Belongs i rows key → (sum_z (λ t. red_of (tree t)) (copies ws) +ℤ dot (length rows) y (brought (column_of i k rows) ws)) ≤ℤ (kappa *ℤ cost_of (column_of i k rows) ws)
          → (sum_z (λ t. red_of (tree t)) (with key w.weight (copies ws)) +ℤ dot (length rows) y (λ j. pos w.weight *ℤ (column_of i k rows key).entry j +ℤ brought (column_of i k rows) ws j))
          ≤ℤ (kappa *ℤ (pos w.weight *ℤ (column_of i k rows key).cost +ℤ cost_of (column_of i k rows) ws))
      by (missing r) b l = drop_first (pos w.weight *ℤ red_of (missing r)) _ _ _ (mul_nonneg (pos w.weight) (red_of (missing r)) (omega (arith, ints)) (first r b)) (one_column (missing r) w.weight ws _ l)
      by (beyond r) b l = drop_first (pos w.weight *ℤ red_of (beyond r)) _ _ _ (mul_nonneg (pos w.weight) (red_of (beyond r)) (omega (arith, ints)) (second r b)) (one_column (beyond r) w.weight ws _ l)
      by (tree t) b l = rw (repeat_sum (λ t. red_of (tree t)) w.weight t (copies ws)) (one_column (tree t) w.weight ws _ l)
