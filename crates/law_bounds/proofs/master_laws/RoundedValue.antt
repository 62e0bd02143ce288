-- The Lagrangian value of rounded prices against the value of a master.
use Rattle.std.proofs.Common.{◌≡◌, ℕ, ℤ, zero, suc, arith, pos, negsuc, neg_ℤ, ◌+ℤ◌, ◌-ℤ◌, ◌*ℤ◌, ◌≤ℤ◌, ◌<ℤ◌, ◌+◌, ◌*◌, ◌≤◌, min, true, Option, Some, List, [], ◌∷◌, ◌++◌, length, refl, sym, ap, ◌∙◌, subst, ◌⊎◌, inl, inr}
use Rattle.std.specs.Prelude.{nat_eq}
use Rattle.std.proofs.lemmas.Bool.{eq-eqb}
use Rattle.std.proofs.Math.Nat.{mul-le-mul_left}
use Rattle.std.proofs.lemmas.Int.{ints}
use lib.IntN.{*ℤ_comm}
use Rattle.model_rosters.specs.declared.grammar.ArcKey.{ArcKey}
use Rattle.model_rosters.specs.declared.instance.Cell.{Cell}
use Rattle.model_rosters.specs.declared.instance.Cut.{Cut}
use Rattle.model_rosters.specs.declared.instance.Instance.{Instance}
use Rattle.model_rosters.specs.declared.instance.Prices.{Prices}
use Rattle.model_rosters.specs.declared.instance.Side.{Side}
use Rattle.model_rosters.specs.declared.instance.Side.TheVariants.{Low, High}
use Rattle.model_rosters.specs.Trees.{Parts, IsDayTree}
use Rattle.model_rosters.specs.Folds.{sum_z, Each}
use Rattle.model_rosters.specs.Arcs.{cost}
use Rattle.model_rosters.specs.Reduced.{CellPrice, CutPrice, cell_prices, cut_prices, signed}
use Rattle.model_rosters.specs.GreatestCost.{greatest_cost}
use Rattle.model_rosters.specs.SoundInstance.{IsSoundInstance}
use Rattle.model_rosters.proofs.EachLemmas.{Each-left, Each-right}
use Rattle.model_rosters.proofs.arc_laws.Totals.{arc_once}
use Rattle.law_bounds.specs.linear_programs.Program.{IsPricedOut}
use Rattle.law_bounds.specs.linear_programs.Sums.{dot}
use Rattle.law_bounds.proofs.linear_programs.Ring.{*ℤ-assoc, *ℤ-+ℤ}
use Rattle.law_bounds.specs.Infeasible.{IsPlainlyInfeasible}
use Rattle.law_bounds.specs.Lagrangian.{trees_share, cell_share, cut_share, lagrangian_sum, IsLeastReduced, IsLagrangian}
use Rattle.law_bounds.specs.BestPrices.{artificial_cost, loss, rounding_denominator}
use Rattle.law_bounds.specs.master_laws.Rows.{Row, rows_of, side_row, cell_count, tree_arcs}
use Rattle.law_bounds.specs.master_laws.Master.{master}
use Rattle.law_bounds.specs.master_laws.Rounding.{CellLine, cell_lines, first_ceiling, first_head, numbers_from, line_sum, line_sums, IsMadeWhole, AreRoundedFrom, IsDenominator}
use Rattle.law_bounds.specs.master_laws.Laws.{ArePricesOf, IsBelowHeads}
use Rattle.law_bounds.proofs.master_laws.RowSums.{priced, worth, IsGood, priced_dot, out_tree}
use Rattle.law_bounds.proofs.master_laws.Lines.{cells_of, built, built_sum, line_total, cut_numbers, OfBuilt, priced_built, cells_of-lines}
use Rattle.law_bounds.proofs.master_laws.Signs.{built_good}
use Rattle.law_bounds.proofs.linear_programs.Orders.{times_add, times_times, times_swap, times_le, scale_le, le_factor}
use Rattle.law_bounds.proofs.master_laws.Numbers.{add_times, times_neg, times_mono, times_fall}
use Rattle.law_bounds.proofs.master_laws.RoundingLemmas.{AreNear, AreNearMults, all_near_one, all_near_none, mults_near_one, mults_near_none, IsClean, lines_clean, line_count, lines_le, covers_le, cuts_le, cuts_pay}
use Rattle.law_bounds.proofs.master_laws.OneTree.{one_total, red, attained, cells_have}

pub lines_count : (f : Cell → ℕ) (t : Parts) (same : (c : Cell) → cell_count c t ≡ f c) (ls : List CellLine) → Each IsClean ls
    → sum_z (line_total (worth (λ (r : Row). pos (r.brings t)))) ls ≡ sum_z (λ (l : CellLine). line_sum l *ℤ pos (cell_count l.cell t)) ls
lines_count f t same [] h = refl
lines_count f t same (l ∷ ls) h =
    let a = line_count (λ c. cell_count c t) l h.0 in
    let r = lines_count f t same ls h.1 in
    omega (arith, ints)

-- the heads' share, r being what the least reduced cost may lack
head_at : (kappa : ℤ) (d r : ℕ) (l m z : ℤ) (a b n : ℕ) → pos 0 <ℤ kappa → pos 0 ≤ℤ l → m ≤ℤ pos 0 → a ≤ n → n ≤ b → ((l +ℤ m) *ℤ pos d) ≤ℤ (kappa *ℤ z +ℤ kappa *ℤ pos r)
    → ((l *ℤ pos a +ℤ m *ℤ pos b) *ℤ pos d) ≤ℤ (kappa *ℤ (pos n *ℤ z) +ℤ kappa *ℤ pos (r * b))
head_at kappa d r l m z a b n positive hl hm ha hb h =
    let c1 = times_mono l a n hl ha in
    let c2 = times_fall m n b hm hb in
    let c3 = times_le (l *ℤ pos a +ℤ m *ℤ pos b) (l *ℤ pos n +ℤ m *ℤ pos n) d (omega (arith, ints)) in
    let c4 : (l *ℤ pos n +ℤ m *ℤ pos n) *ℤ pos d ≡ ((l +ℤ m) *ℤ pos d) *ℤ pos n = ap (λ (x : ℤ). x *ℤ pos d) (sym (add_times l m n)) ∙ times_swap (l +ℤ m) n d in
    let c5 = times_le ((l +ℤ m) *ℤ pos d) (kappa *ℤ z +ℤ kappa *ℤ pos r) n h in
    let c6 = add_times (kappa *ℤ z) (kappa *ℤ pos r) n in
    let c7 : (kappa *ℤ z) *ℤ pos n ≡ kappa *ℤ (pos n *ℤ z) = *ℤ-assoc kappa z (pos n) ∙ ap (λ (x : ℤ). kappa *ℤ x) (*ℤ_comm z (pos n)) in
    let c8 = times_times kappa r n in
    let c9 = times_mono kappa (r * n) (r * b) (omega (arith, ints)) (mul-le-mul_left r hb) in
    omega (arith, ints)

head_le : (kappa : ℤ) (d r : ℕ) (l m z : ℤ) (a b : ℕ) → pos 0 <ℤ kappa → pos 0 ≤ℤ l → m ≤ℤ pos 0 → a ≤ b → ((l +ℤ m) *ℤ pos d) ≤ℤ (kappa *ℤ z +ℤ kappa *ℤ pos r)
    → ((l *ℤ pos a +ℤ m *ℤ pos b) *ℤ pos d) ≤ℤ (kappa *ℤ trees_share a b (Some z) +ℤ kappa *ℤ pos (r * b))
head_le kappa d r l m (pos z) a b positive hl hm hab h = head_at kappa d r l m (pos z) a b a positive hl hm (omega arith) hab h
head_le kappa d r l m (negsuc z) a b positive hl hm hab h = head_at kappa d r l m (negsuc z) a b b positive hl hm hab (omega arith) h

module _ (i : Instance) (cuts : List Cut) (y : ℕ → ℤ) (kappa : ℤ) (p : Prices) (e : ℕ) (sound : IsSoundInstance i) (busy : IsPlainlyInfeasible i → ⊥) (positive : pos 0 <ℤ kappa)
    (out : IsPricedOut (master i cuts) y kappa) (near_cells : AreNear kappa p.d e (line_sums (cell_lines i y)) p.cell)
    (near_mults : AreNearMults kappa p.d e p.mult 1 cuts (numbers_from y (first_head i + 2) cuts)) (below : Each (IsBelowHeads i) cuts) where
  abbrev ls : List CellLine
  ls = cell_lines i y

  abbrev xs : List ℤ
  xs = numbers_from y (first_head i + 2) cuts

  abbrev l : ℤ
  l = y (first_head i)

  abbrev m : ℤ
  m = y (first_head i + 1)

  cells_are : cells_of ls ≡ i.cells
  cells_are = cells_of-lines y 0 (length i.cells) (first_ceiling i) i.cells

  clean : Each IsClean ls
  clean = lines_clean y 0 (length i.cells) (first_ceiling i) i.cells

  good : OfBuilt (IsGood (artificial_cost i) kappa) i ls l m cuts xs
  good = built_good i cuts y kappa out

  sums_are : (f : Row → ℤ) → sum_z (worth f) (priced y 0 (rows_of i cuts)) ≡ sum_z (worth f) (built i ls l m cuts xs)
  sums_are f = ap (sum_z (worth f)) (priced_built y i cuts)

  tree_le : (t : Parts) → IsDayTree i.grammar t → ((l +ℤ m) *ℤ pos p.d) ≤ℤ (kappa *ℤ red i p cuts t +ℤ kappa *ℤ pos (e * length cuts))
  tree_le t h =
      let f = λ (c : Cell). cell_count c t in
      let brings = λ (r : Row). pos (r.brings t) in
      let o = out_tree i (rows_of i cuts) y kappa out t h in
      let s = sums_are brings ∙ built_sum (worth brings) i ls l m cuts xs in
      let k = lines_count f t (λ c. refl) ls clean in
      let a = covers_le kappa (artificial_cost i) p.d e i.heads_max positive f ls p.cell clean near_cells in
      let a' = subst (λ (cs : List Cell). (kappa *ℤ sum_z (λ (q : CellPrice). q.price *ℤ pos (f q.cell)) (cell_prices cs p.cell)) ≤ℤ (sum_z (λ (l : CellLine). line_sum l *ℤ pos (f l.cell)) ls *ℤ pos p.d)) cells_are a in
      let b = cuts_pay kappa (artificial_cost i) p.d e i.heads_max positive (λ a. tree_arcs a t) p.mult 1 cuts xs (λ a. arc_once i.grammar sound.grammar t a h) near_mults (λ r. r.brings t) same in
      let r = one_total i.grammar p.d (cell_prices i.cells p.cell) (cut_prices 1 cuts p.mult) t in
      finish (sum_z (λ (l : CellLine). line_sum l *ℤ pos (f l.cell)) ls) (sum_z (worth brings) (cut_numbers cuts xs)) (sum_z (λ (q : CellPrice). q.price *ℤ pos (f q.cell)) (cell_prices i.cells p.cell))
      (sum_z (λ (k : CutPrice). signed k.cut.side k.mult *ℤ pos (tree_arcs k.cut.arc t)) (cut_prices 1 cuts p.mult)) (red i p cuts t) (cost i.grammar t)
      (omega (arith, ints)) a' b r
    where
      same : (s : Side) (b : ℕ) (a : ArcKey) → (side_row s b a).brings t ≡ tree_arcs a t
      same Low b a = refl
      same High b a = refl

      finish : (S X A B R : ℤ) (c : ℕ) → (S +ℤ l +ℤ m +ℤ X) ≤ℤ (kappa *ℤ pos c) → (kappa *ℤ A) ≤ℤ (S *ℤ pos p.d) → neg_ℤ (X *ℤ pos p.d) ≤ℤ (kappa *ℤ B +ℤ kappa *ℤ pos (e * length cuts)) → R ≡ neg_ℤ A +ℤ B +ℤ pos p.d *ℤ pos c
          → ((l +ℤ m) *ℤ pos p.d) ≤ℤ (kappa *ℤ R +ℤ kappa *ℤ pos (e * length cuts))
      finish S X A B R c o a b r =
          let t1 = times_le (S +ℤ l +ℤ m +ℤ X) (kappa *ℤ pos c) p.d o in
          let t2 = add_times (S +ℤ l +ℤ m) X p.d in
          let t3 : (S +ℤ l +ℤ m) *ℤ pos p.d ≡ S *ℤ pos p.d +ℤ (l +ℤ m) *ℤ pos p.d = ap (λ (z : ℤ). z *ℤ pos p.d) (omega (arith, ints)) ∙ add_times S (l +ℤ m) p.d in
          let t4 : (kappa *ℤ pos c) *ℤ pos p.d ≡ kappa *ℤ (pos p.d *ℤ pos c) = times_times kappa c p.d ∙ ap (λ n. kappa *ℤ pos n) (omega arith) in
          let t5 : kappa *ℤ R ≡ neg_ℤ (kappa *ℤ A) +ℤ kappa *ℤ B +ℤ kappa *ℤ (pos p.d *ℤ pos c) =
          ap (λ (z : ℤ). kappa *ℤ z) r ∙ *ℤ-+ℤ kappa (neg_ℤ A +ℤ B) (pos p.d *ℤ pos c) ∙ ap (λ (z : ℤ). z +ℤ kappa *ℤ (pos p.d *ℤ pos c)) (*ℤ-+ℤ kappa (neg_ℤ A) B ∙ ap (λ (z : ℤ). z +ℤ kappa *ℤ B) (times_neg kappa A)) in
          omega (arith, ints)

  -- the value of the rows, over kappa, against the lagrangian_sum value
  pub value_le : (t : Parts) (z : Option ℤ) → IsDayTree i.grammar t → IsLeastReduced i p cuts z
      → (dot (master i cuts).rows y (master i cuts).right *ℤ pos p.d) ≤ℤ (kappa *ℤ lagrangian_sum i p cuts z +ℤ kappa *ℤ pos (e * (i.heads_max * (2 * length cuts + length i.cells))))
  value_le t z day least =
      let x = attained i p cuts z t least day in
      let a = tree_le x.2.some x.2.day in
      let a' : ((l +ℤ m) *ℤ pos p.d) ≤ℤ (kappa *ℤ x.0 +ℤ kappa *ℤ pos (e * length cuts)) = rw x.2.value at a in
      let h = head_le kappa p.d (e * length cuts) l m x.0 i.heads_min i.heads_max positive good.least.0 good.most sound.order a' in
      let h' = subst (λ (o : Option ℤ). ((l *ℤ pos i.heads_min +ℤ m *ℤ pos i.heads_max) *ℤ pos p.d) ≤ℤ (kappa *ℤ trees_share i.heads_min i.heads_max o +ℤ kappa *ℤ pos (e * length cuts * i.heads_max))) (sym x.1) h in
      let open_cells = subst (λ (cs : List Cell). Each (λ (c : Cell). c.floor ≤ min c.ceiling i.heads_max) cs) (sym cells_are) (cells_have i busy) in
      let c = lines_le kappa (artificial_cost i) p.d e i.heads_max positive ls p.cell good.lines clean near_cells open_cells in
      let c' = subst (λ (cs : List Cell). (sum_z (line_total (worth (λ (r : Row). pos r.right))) ls *ℤ pos p.d) ≤ℤ (kappa *ℤ sum_z (cell_share p.d i.heads_max) (cell_prices cs p.cell) +ℤ kappa *ℤ pos (e * i.heads_max * length ls))) cells_are c in
      let k = cuts_le kappa (artificial_cost i) p.d e i.heads_max positive p.mult 1 cuts xs below near_mults in
      let s = priced_dot (λ (r : Row). pos r.right) y (rows_of i cuts) ∙ sums_are (λ (r : Row). pos r.right) ∙ built_sum (worth (λ (r : Row). pos r.right)) i ls l m cuts xs in
      let n : length ls ≡ length i.cells = length_cells ls ∙ ap length cells_are in
      finish (sum_z (line_total (worth (λ (r : Row). pos r.right))) ls) (sum_z (worth (λ (r : Row). pos r.right)) (cut_numbers cuts xs)) (dot (master i cuts).rows y (master i cuts).right)
      (trees_share i.heads_min i.heads_max z) (sum_z (cell_share p.d i.heads_max) (cell_prices i.cells p.cell)) (sum_z cut_share (cut_prices 1 cuts p.mult)) (length ls) n s h' c' k
    where
      length_cells : (ls : List CellLine) → length ls ≡ length (cells_of ls)
      length_cells [] = refl
      length_cells (l ∷ ls) = omega (arith, length_cells ls)

      errors : (e h c n : ℕ) → e * c * h + e * h * n + e * h * c ≡ e * (h * (2 * c + n))
      errors e h c n = omega arith

      finish : (S X V H C K : ℤ) (n : ℕ) → n ≡ length i.cells → V ≡ S +ℤ l *ℤ pos i.heads_min +ℤ m *ℤ pos i.heads_max +ℤ X
          → ((l *ℤ pos i.heads_min +ℤ m *ℤ pos i.heads_max) *ℤ pos p.d) ≤ℤ (kappa *ℤ H +ℤ kappa *ℤ pos (e * length cuts * i.heads_max))
          → (S *ℤ pos p.d) ≤ℤ (kappa *ℤ C +ℤ kappa *ℤ pos (e * i.heads_max * n)) → (X *ℤ pos p.d) ≤ℤ (kappa *ℤ K +ℤ kappa *ℤ pos (e * i.heads_max * length cuts))
          → (V *ℤ pos p.d) ≤ℤ (kappa *ℤ (H +ℤ C +ℤ K) +ℤ kappa *ℤ pos (e * (i.heads_max * (2 * length cuts + length i.cells))))
      finish S X V H C K n q s h c k =
          let t1 : V *ℤ pos p.d ≡ S *ℤ pos p.d +ℤ (l *ℤ pos i.heads_min +ℤ m *ℤ pos i.heads_max) *ℤ pos p.d +ℤ X *ℤ pos p.d =
          ap (λ (z : ℤ). z *ℤ pos p.d) (s ∙ omega (arith, ints)) ∙ add_times (S +ℤ (l *ℤ pos i.heads_min +ℤ m *ℤ pos i.heads_max)) X p.d ∙ ap (λ (z : ℤ). z +ℤ X *ℤ pos p.d) (add_times S (l *ℤ pos i.heads_min +ℤ m *ℤ pos i.heads_max) p.d) in
          let t2 = *ℤ-+ℤ kappa (H +ℤ C) K in
          let t3 = *ℤ-+ℤ kappa H C in
          let t4 = times_add kappa (e * length cuts * i.heads_max + e * i.heads_max * n) (e * i.heads_max * length cuts) in
          let t5 = times_add kappa (e * length cuts * i.heads_max) (e * i.heads_max * n) in
          let t6 : kappa *ℤ pos (e * length cuts * i.heads_max + e * i.heads_max * n + e * i.heads_max * length cuts) ≡ kappa *ℤ pos (e * (i.heads_max * (2 * length cuts + length i.cells))) =
          ap (λ j. kappa *ℤ pos j) (errors e i.heads_max (length cuts) n ∙ ap (λ j. e * (i.heads_max * (2 * length cuts + j))) q) in
          omega (arith, ints)

-- from the value of the rows to that of the master
end_le : (kappa v V L : ℤ) (q d err most : ℕ) → pos 0 <ℤ kappa → kappa *ℤ v ≡ V *ℤ pos q → (V *ℤ pos d) ≤ℤ (kappa *ℤ L +ℤ kappa *ℤ pos err) → err ≤ most → (v *ℤ pos d) ≤ℤ ((L +ℤ pos most) *ℤ pos q)
end_le kappa v V L q d err most positive e h small =
    let a = times_le (V *ℤ pos d) (kappa *ℤ (L +ℤ pos most)) q (let s = *ℤ-+ℤ kappa L (pos most) in let t = times_mono kappa err most (omega (arith, ints)) small in omega (arith, ints)) in
    let b : (V *ℤ pos d) *ℤ pos q ≡ kappa *ℤ (v *ℤ pos d) = times_swap V d q ∙ ap (λ (z : ℤ). z *ℤ pos d) (sym e) ∙ *ℤ-assoc kappa v (pos d) in
    let c = *ℤ-assoc kappa (L +ℤ pos most) (pos q) in
    le_factor kappa (v *ℤ pos d) ((L +ℤ pos most) *ℤ pos q) positive (omega (arith, ints))

pub rounded_value : (i : Instance) (cuts : List Cut) (y : ℕ → ℤ) (kappa : ℤ) (v : ℤ) (q : ℕ) (p : Prices) (t : Parts) (l : ℤ) → IsSoundInstance i → (IsPlainlyInfeasible i → ⊥)
    → IsDayTree i.grammar t → Each (IsBelowHeads i) cuts → ArePricesOf i cuts y kappa v q → AreRoundedFrom i cuts y kappa p → IsLagrangian i p cuts l
    → (v *ℤ pos p.d) ≤ℤ ((l +ℤ pos (loss i p cuts)) *ℤ pos q)
rounded_value i cuts y kappa v q p t l sound busy day below prices rounded lag = by lag.value rounded.denominator
  where
    rounded_at : IsDenominator kappa (line_sums (cell_lines i y) ++ numbers_from y (first_head i + 2) cuts) p.d → (V : ℤ) → V ≡ dot (master i cuts).rows y (master i cuts).right
        → (err : ℕ) × (err ≤ loss i p cuts) × ((V *ℤ pos p.d) ≤ℤ (kappa *ℤ lagrangian_sum i p cuts lag.z +ℤ kappa *ℤ pos err))
    rounded_at (inl exact) V e = (
      0 * (i.heads_max * (2 * length cuts + length i.cells)),
      omega arith,
      rw e (value_le i cuts y kappa p 0 sound busy prices.positive prices.priced
          (all_near_none kappa p.d prices.positive (line_sums (cell_lines i y)) p.cell (Each-left (IsMadeWhole kappa p.d) (line_sums (cell_lines i y)) _ exact.0.whole) rounded.cell)
          (mults_near_none kappa p.d prices.positive p.mult 1 cuts (numbers_from y (first_head i + 2) cuts) (Each-right (IsMadeWhole kappa p.d) (line_sums (cell_lines i y)) _ exact.0.whole) rounded.mult)
          below t lag.z day lag.least),
    )
    rounded_at (inr wide) V e = (
      1 * (i.heads_max * (2 * length cuts + length i.cells)),
      (let z : nat_eq p.d rounding_denominator ≡ true = eq-eqb p.d rounding_denominator wide.1 in rw z (few i.heads_max i.grammar.periods (length cuts) (length i.cells))),
      rw e (value_le i cuts y kappa p 1 sound busy prices.positive prices.priced
          (all_near_one kappa p.d prices.positive (line_sums (cell_lines i y)) p.cell rounded.cell)
          (mults_near_one kappa p.d prices.positive p.mult 1 cuts (numbers_from y (first_head i + 2) cuts) rounded.mult)
          below t lag.z day lag.least),
    )
      where
        few : (h n c k : ℕ) → 1 * (h * (2 * c + k)) ≤ h * (n + 2 * c + k)
        few h n c k = omega arith

    by : (IsPlainlyInfeasible i × (l ≡ pos p.d *ℤ pos (greatest_cost i + 1))) ⊎ ((IsPlainlyInfeasible i → ⊥) × (l ≡ lagrangian_sum i p cuts lag.z)) → IsDenominator kappa (line_sums (cell_lines i y) ++ numbers_from y (first_head i + 2) cuts) p.d → (v *ℤ pos p.d) ≤ℤ ((l +ℤ pos (loss i p cuts)) *ℤ pos q)
    by (inl b) den = absurd (busy b.0)
    by (inr b) den =
        let x = rounded_at den (dot (master i cuts).rows y (master i cuts).right) refl in
        let r = end_le kappa v (dot (master i cuts).rows y (master i cuts).right) (lagrangian_sum i p cuts lag.z) q p.d x.0 (loss i p cuts) prices.positive prices.value x.2 x.1 in
        rw b.1 r
