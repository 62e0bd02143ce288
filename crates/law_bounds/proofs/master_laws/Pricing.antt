-- The reduced costs of trees as sums at the prices of the rows.
use Rattle.std.proofs.Common.{◌≡◌, ℕ, ℤ, arith, pos, neg_ℤ, ◌+ℤ◌, ◌-ℤ◌, ◌*ℤ◌, ◌≤ℤ◌, ◌+◌, ◌<◌, Option, None, Some, List, [], ◌∷◌, length, refl, sym, ap, ◌∙◌, subst}
use Rattle.std.proofs.lemmas.Int.{ints}
use Rattle.model_rosters.specs.declared.grammar.ArcKey.{ArcKey}
use Rattle.model_rosters.specs.declared.instance.Cell.{Cell}
use Rattle.model_rosters.specs.declared.instance.Cut.{Cut}
use Rattle.model_rosters.specs.declared.instance.Instance.{Instance}
use Rattle.model_rosters.specs.declared.instance.Side.{Side}
use Rattle.model_rosters.specs.declared.instance.Side.TheVariants.{Low, High}
use Rattle.model_rosters.specs.Trees.{Parts, IsDayTree}
use Rattle.model_rosters.specs.Sums.{IsLeast, AtMost, tree_sum}
use Rattle.model_rosters.specs.Folds.{sum_z}
use Rattle.model_rosters.specs.Arcs.{cost, rule_cost}
use Rattle.model_rosters.specs.Reduced.{CellPrice, CutPrice, cell_prices, signed, letter_price, arc_price, cuts_paid}
use Rattle.law_bounds.specs.linear_programs.Program.{IsPricedOut, reduced}
use Rattle.law_bounds.proofs.TreeValues.{tree_sum-value}
use Rattle.law_bounds.specs.master_laws.Rows.{Row, rows_of, side_row, cell_count, tree_arcs, HoldsAt}
use Rattle.law_bounds.specs.master_laws.Master.{missing, beyond, tree, HasBeyond, master}
use Rattle.law_bounds.specs.master_laws.Rounding.{CellLine, cell_lines, line_sum, line_sums, first_ceiling, first_head, numbers_from}
use Rattle.law_bounds.specs.master_laws.Pricing.{row_view}
use Rattle.law_bounds.proofs.master_laws.RowSums.{worth, priced_dot}
use Rattle.law_bounds.proofs.master_laws.Lines.{at, cells_of, cells_of-lines, built_sum, cut_numbers, priced_built}
use Rattle.law_bounds.proofs.master_laws.Numbers.{neg_times}
use Rattle.law_bounds.proofs.master_laws.RoundingLemmas.{lines_clean}
use Rattle.law_bounds.proofs.master_laws.RoundedValue.{lines_count}
use Rattle.law_bounds.proofs.master_laws.OneTree.{one_total}

lines_paid : (f : Cell → ℕ) (ls : List CellLine) → sum_z (λ (q : CellPrice). q.price *ℤ pos (f q.cell)) (cell_prices (cells_of ls) (line_sums ls)) ≡ sum_z (λ (l : CellLine). line_sum l *ℤ pos (f l.cell)) ls
lines_paid f [] = refl
lines_paid f (l ∷ ls) = ap (λ (z : ℤ). line_sum l *ℤ pos (f l.cell) +ℤ z) (lines_paid f ls)

module _ (t : Parts) where
  cut_paid : (s : Side) (b : ℕ) (a : ArcKey) (x : ℤ) → signed s (neg_ℤ (signed s x)) *ℤ pos (tree_arcs a t) ≡ neg_ℤ (worth (λ (r : Row). pos (r.brings t)) (at (side_row s b a) x))
  cut_paid Low b a x = neg_times x (tree_arcs a t)
  cut_paid High b a x = let e : neg_ℤ (neg_ℤ (neg_ℤ x)) ≡ neg_ℤ x = omega (arith, ints) in rw e (neg_times x (tree_arcs a t))

  cuts_pay : (cs : List Cut) (xs : List ℤ) → sum_z (λ (k : CutPrice). signed k.cut.side k.mult *ℤ pos (tree_arcs k.cut.arc t)) (cuts_paid cs xs) ≡ neg_ℤ (sum_z (worth (λ (r : Row). pos (r.brings t))) (cut_numbers cs xs))
  cuts_pay [] xs = refl
  cuts_pay (c ∷ cs) [] = refl
  cuts_pay (c ∷ cs) (x ∷ xs) = let a = cut_paid c.side c.b c.arc x in omega (arith, ints, cuts_pay cs xs)

module _ (i : Instance) (cuts : List Cut) (y : ℕ → ℤ) (kappa : ℕ) where
  pub trees_priced : (t : Parts) → IsDayTree i.grammar t → tree_sum (row_view i cuts y kappa) 1 t ≡ Some (reduced (master i cuts).rows y (pos kappa) ((master i cuts).column (tree t)) +ℤ y (first_head i) +ℤ y (first_head i + 1))
  trees_priced t h =
      let ls = cell_lines i y in
      let xs = numbers_from y (first_head i + 2) cuts in
      let brings = λ (r : Row). pos (r.brings t) in
      let ps = cell_prices i.cells (line_sums ls) in
      let ks = cuts_paid cuts xs in
      let v = tree_sum-value (λ l. neg_ℤ (letter_price ps l)) (arc_price ks) (λ r. pos kappa *ℤ pos (rule_cost i.grammar r)) i.grammar t h in
      let o = one_total i.grammar kappa ps ks t in
      let p = lines_paid (λ c. cell_count c t) ls in
      let p' : sum_z (λ (q : CellPrice). q.price *ℤ pos (cell_count q.cell t)) ps ≡ sum_z (λ (l : CellLine). line_sum l *ℤ pos (cell_count l.cell t)) ls =
      ap (λ (cs : List Cell). sum_z (λ (q : CellPrice). q.price *ℤ pos (cell_count q.cell t)) (cell_prices cs (line_sums ls))) (sym (cells_of-lines y 0 (length i.cells) (first_ceiling i) i.cells)) ∙ p in
      let c = cuts_pay t cuts xs in
      let d = priced_dot brings y (rows_of i cuts) ∙ ap (sum_z (worth brings)) (priced_built y i cuts) ∙ built_sum (worth brings) i ls (y (first_head i)) (y (first_head i + 1)) cuts xs in
      let k = lines_count (λ c. cell_count c t) t (λ c. refl) ls (lines_clean y 0 (length i.cells) (first_ceiling i) i.cells) in
      v ∙ ap (λ (z : ℤ). Some z) (o ∙ finish _ _ _ _ _ _ p' c d k)
    where
      finish : (A B S X D T : ℤ) → A ≡ S → B ≡ neg_ℤ X → D ≡ T +ℤ y (first_head i) *ℤ pos 1 +ℤ y (first_head i + 1) *ℤ pos 1 +ℤ X → T ≡ S
          → neg_ℤ A +ℤ B +ℤ pos kappa *ℤ pos (cost i.grammar t) ≡ (pos kappa *ℤ pos (cost i.grammar t) -ℤ D) +ℤ y (first_head i) +ℤ y (first_head i + 1)
      finish A B S X D T a b d k = omega (arith, ints)

  pub out_by_sums : (z : Option ℤ)
      → ((r : ℕ) → r < (master i cuts).rows → pos 0 ≤ℤ reduced (master i cuts).rows y (pos kappa) ((master i cuts).column (missing r)))
      → ((r : ℕ) → HoldsAt HasBeyond (rows_of i cuts) r → pos 0 ≤ℤ reduced (master i cuts).rows y (pos kappa) ((master i cuts).column (beyond r)))
      → IsLeast (IsDayTree i.grammar) (tree_sum (row_view i cuts y kappa) 1) z → AtMost (Some (y (first_head i) +ℤ y (first_head i + 1))) z
      → IsPricedOut (master i cuts) y (pos kappa)
  out_by_sums z first second least enough (missing r) h = first r h
  out_by_sums z first second least enough (beyond r) h = second r h
  out_by_sums z first second least enough (tree t) h =
      let l = subst (λ (o : Option ℤ). AtMost z o) (trees_priced t h) (least.least t h) in
      by z enough l
    where
      by : (z : Option ℤ) → AtMost (Some (y (first_head i) +ℤ y (first_head i + 1))) z → AtMost z (Some (reduced (master i cuts).rows y (pos kappa) ((master i cuts).column (tree t)) +ℤ y (first_head i) +ℤ y (first_head i + 1)))
          → pos 0 ≤ℤ reduced (master i cuts).rows y (pos kappa) ((master i cuts).column (tree t))
      by None e l = absurd l
      by (Some v) e l = plain _ (y (first_head i)) (y (first_head i + 1)) v e l
        where
          plain : (r a b v : ℤ) → (a +ℤ b) ≤ℤ v → v ≤ℤ (r +ℤ a +ℤ b) → pos 0 ≤ℤ r
          plain r a b v e l = omega (arith, ints)
