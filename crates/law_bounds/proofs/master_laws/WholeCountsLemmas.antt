-- Whole counts of a solution: they can be split, and trees that have them meet the node.
use Rattle.std.proofs.Common.{true≢false, ◌≡◌, ℕ, ℤ, zero, suc, arith, pos, negsuc, neg_ℤ, ◌+ℤ◌, ◌-ℤ◌, ◌*ℤ◌, ◌≤ℤ◌, ◌+◌, ◌-◌, ◌*◌, ◌≤◌, ◌<◌, Bool, true, false, cond, List, [], ◌∷◌, length, refl, sym, ap, ◌∙◌, subst, ◌⊎◌, inl, inr, ltb-false, ltb-true}
use Rattle.std.specs.Prelude.{nat_lt}
use Rattle.std.proofs.lemmas.Int.{ints}
use Rattle.model_rosters.specs.declared.grammar.ArcKey.{ArcKey}
use Rattle.model_rosters.specs.declared.grammar.Grammar.{Grammar}
use Rattle.model_rosters.specs.declared.instance.Cell.{Cell}
use Rattle.model_rosters.specs.declared.instance.Cut.{Cut}
use Rattle.model_rosters.specs.declared.instance.Instance.{Instance}
use Rattle.model_rosters.specs.declared.instance.Side.{Side}
use Rattle.model_rosters.specs.declared.instance.Side.TheVariants.{Low, High}
use Rattle.model_rosters.specs.Trees.{Parts, IsDayTree}
use Rattle.model_rosters.specs.Folds.{sum_z, sum_n, count, Each, In}
use Rattle.model_rosters.specs.Arcs.{arcs, cost, same_arc, IsArc}
use Rattle.model_rosters.specs.Coverage.{penalty}
use Rattle.model_rosters.specs.Cuts.{arcs_of, arc_count, KeepsTo, Meets}
use Rattle.model_rosters.specs.SoundInstance.{IsSoundInstance}
use Rattle.model_rosters.proofs.EachLemmas.{Each-weaker, Each-left, Each-right}
use Rattle.model_rosters.specs.arc_laws.OrNodes.{OrNode, name, suffix, same_node, made, used}
use Rattle.model_rosters.specs.arc_laws.Balance.{made_sum, used_sum}
use Rattle.model_rosters.specs.arc_laws.Counts.{top_cost}
use Rattle.model_rosters.proofs.arc_laws.FoldsLemmas.{In-append}
use Rattle.model_rosters.proofs.arc_laws.SameArc.{Told, arc_tells, same_arc-refl}
use Rattle.model_rosters.proofs.arc_laws.Totals.{arc_count-le, trees-balanced, root-counts, leaves-count, arcs-pay}
use Rattle.law_bounds.specs.BestPrices.{artificial_cost}
use Rattle.law_bounds.specs.TreeRosters.{tree_cover, IsCovered, IsTreeRoster, trees_cost}
use Rattle.law_bounds.specs.Counted.{HaveCounts}
use Rattle.law_bounds.specs.linear_programs.Sums.{dot}
use Rattle.law_bounds.specs.linear_programs.Solution.{Weighted, IsSolution, brought, cost_of, Uses}
use Rattle.law_bounds.proofs.linear_programs.Ring.{*ℤ-+ℤ, *ℤ--ℤ}
use Rattle.law_bounds.proofs.linear_programs.Totals.{dot-same_right, dot-scale_right}
use Rattle.law_bounds.proofs.linear_programs.Duality.{swapped}
use Rattle.law_bounds.proofs.linear_programs.Orders.{times_add}
use Rattle.law_bounds.specs.master_laws.Rows.{at_least, at_most, Row, rows_of, number_at, HoldsAt, cell_row, floor_row, ceiling_row, least_row, most_row, side_row, cut_row, cell_rows, floor_rows, ceiling_rows, cut_rows, has_floor, has_ceiling, cell_count}
use Rattle.law_bounds.specs.master_laws.Master.{MasterKey, missing, beyond, tree, is_artificial, IsArtificial, column_of, program_of}
use Rattle.law_bounds.specs.master_laws.Rounding.{CellLine}
use Rattle.law_bounds.specs.master_laws.Sharp.{UsesArtificial}
use Rattle.law_bounds.specs.master_laws.WholeCounts.{HasCounts, CanBeSplit, MeetNode}
use Rattle.law_bounds.proofs.master_laws.RowSums.{RowPrice, rows_in, price_at, worth, IsGood, listed_dot, out_missing, out_beyond}
use Rattle.law_bounds.proofs.master_laws.Lines.{at, cells_of, built, built_rows, built_sum, line_total, cut_numbers, AreMany, OfLine, to_built}
use Rattle.law_bounds.proofs.master_laws.Duals.{slope_high, slope_low}
use Rattle.law_bounds.proofs.master_laws.Once.{cell_once}
use Rattle.law_bounds.proofs.master_laws.Copies.{copies, copies_day, copies_arcs, sum_arcs, sum_cover, sum_ones, each_row, most_kept, least_kept, artificial_at, red_of, trees_reduced}
use Rattle.law_bounds.proofs.master_laws.WideNumbers.{cancel_le}

cancel : (q x y : ℕ) → 0 < q → q * x ≡ q * y → x ≡ y
cancel q x y h e = let a = cancel_le q x y h (omega arith) in let b = cancel_le q y x h (omega arith) in omega arith

scaled : (q : ℕ) (value f : ArcKey → ℕ) (listed : List ArcKey) → sum_n (λ a. q * value a * f a) listed ≡ q * sum_n (λ a. value a * f a) listed
scaled q value f [] = omega arith
scaled q value f (a ∷ listed) = omega (arith, scaled q value f listed)

-- ---- arcs that no tree has
absent : (a : ArcKey) (xs : List ArcKey) → (In a xs → ⊥) → count (same_arc a) xs ≡ 0
absent a [] h = refl
absent a (x ∷ xs) h = by (arc_tells a x) (absent a xs (λ k. h (inr k)))
  where
    by : Told a x → count (same_arc a) xs ≡ 0 → cond (same_arc a x) 1 0 + count (same_arc a) xs ≡ 0
    by (inl k) e = absurd (h (inl k.2))
    by (inr k) e = rw k.0 (omega (arith, e))

is_in : (a : ArcKey) (xs : List ArcKey) → In a xs ⊎ (In a xs → ⊥)
is_in a [] = inr (λ h. h)
is_in a (x ∷ xs) = by (arc_tells a x) (is_in a xs)
  where
    by : Told a x → In a xs ⊎ (In a xs → ⊥) → In a (x ∷ xs) ⊎ (In a (x ∷ xs) → ⊥)
    by (inl k) r = inl (inl k.2)
    by (inr k) (inl r) = inl (inr r)
    by (inr k) (inr r) = inr none
      where
        none : In a (x ∷ xs) → ⊥
        none (inl e) = true≢false (sym (subst (λ (y : ArcKey). same_arc a y ≡ true) e (same_arc-refl a)) ∙ k.0)
        none (inr m) = r m

in_tree : (g : Grammar) (a : ArcKey) (ts : List Parts) → Each (IsDayTree g) ts → In a (arcs_of ts) → IsArc g a
in_tree g a [] d h = absurd h
in_tree g a (t ∷ ts) d h = pick (In-append a (arcs 1 t) (arcs_of ts) h) (in_tree g a ts d.1)
  where
    pick : In a (arcs 1 t) ⊎ In a (arcs_of ts) → (In a (arcs_of ts) → IsArc g a) → IsArc g a
    pick (inl k) f = (t, d.0, k)
    pick (inr k) f = f k

-- ---- is an artificial column used
artificial_is : (rows : List Row) (r : ℕ) → HoldsAt IsArtificial rows r ⊎ (HoldsAt IsArtificial rows r → ⊥)
artificial_is [] r = inr (λ h. h)
artificial_is (x ∷ rows) zero = by (is_artificial x.sense)
  where
    by : (b : Bool) → (b ≡ true) ⊎ (b ≡ true → ⊥)
    by true = inl refl
    by false = inr (λ e. true≢false (sym e))
artificial_is (x ∷ rows) (suc r) = artificial_is rows r

pub row_of : MasterKey → ℕ
row_of (missing r) = r
row_of (beyond r) = r
row_of (tree t) = 0

pub is_missing : MasterKey → Bool
is_missing (missing r) = true
is_missing (beyond r) = false
is_missing (tree t) = false

abbrev UsesIn : List Row → List (Weighted MasterKey) → Type 0
UsesIn rows ws = (r : ℕ) × HoldsAt IsArtificial rows r × Uses ws (missing r)

uses_is : (rows : List Row) (ws : List (Weighted MasterKey)) → UsesIn rows ws ⊎ (UsesIn rows ws → ⊥)
unfolding row_of is_missing
uses_is rows [] = inr (λ h. h.2)
uses_is rows (w ∷ ws) = by (uses_is rows ws)
  where
    other : (UsesIn rows ws → ⊥) → ((r : ℕ) → HoldsAt IsArtificial rows r → w.key ≡ missing r → 0 < w.weight → ⊥) → UsesIn rows (w ∷ ws) → ⊥
    other none first h = split h.0 h.1 h.2
      where
        split : (r : ℕ) → HoldsAt IsArtificial rows r → Uses (w ∷ ws) (missing r) → ⊥
        split r a (inl e) = first r a e.0 e.1
        split r a (inr u) = none (r, a, u)

    here : (UsesIn rows ws → ⊥) → (key : MasterKey) → w.key ≡ key → (n : ℕ) → w.weight ≡ n → UsesIn rows (w ∷ ws) ⊎ (UsesIn rows (w ∷ ws) → ⊥)
    here none key k zero n = inr (other none (λ r a e p. absurd (omega arith)))
    here none (beyond s) k (suc m) n = inr (other none (λ r a e p. true≢false (sym (ap is_missing (sym k ∙ e)))))
    here none (tree t) k (suc m) n = inr (other none (λ r a e p. true≢false (sym (ap is_missing (sym k ∙ e)))))
    here none (missing s) k (suc m) n = art (artificial_is rows s)
      where
        art : HoldsAt IsArtificial rows s ⊎ (HoldsAt IsArtificial rows s → ⊥) → UsesIn rows (w ∷ ws) ⊎ (UsesIn rows (w ∷ ws) → ⊥)
        art (inl a) = inl (s, a, inl (k, omega arith))
        art (inr a) = inr (other none (λ r b e p. a (subst (λ j. HoldsAt IsArtificial rows j) (sym (ap row_of (sym k ∙ e))) b)))

    by : UsesIn rows ws ⊎ (UsesIn rows ws → ⊥) → UsesIn rows (w ∷ ws) ⊎ (UsesIn rows (w ∷ ws) → ⊥)
    by (inl h) = inl (h.0, h.1, inr h.2)
    by (inr none) = here none w.key refl w.weight refl

-- ---- the rows of a master, by cells and cuts
each_floor : (P : Row → Type 0) (cs : List Cell) → Each P (floor_rows cs) → Each (λ (c : Cell). has_floor c ≡ true → P (floor_row c)) cs
each_floor P [] h = tt
each_floor P (c ∷ cs) h = (one (has_floor c) (Each-left P _ (floor_rows cs) h), each_floor P cs (Each-right P (cond (has_floor c) (floor_row c ∷ []) []) (floor_rows cs) h))
  where
    one : (b : Bool) → Each P (cond b (floor_row c ∷ []) []) → b ≡ true → P (floor_row c)
    one true k e = k.0
    one false k e = absurd (true≢false (sym e))

each_ceiling : (P : Row → Type 0) (cs : List Cell) → Each P (ceiling_rows cs) → Each (λ (c : Cell). has_ceiling c ≡ true → P (ceiling_row c)) cs
each_ceiling P [] h = tt
each_ceiling P (c ∷ cs) h = (one (has_ceiling c) (Each-left P _ (ceiling_rows cs) h), each_ceiling P cs (Each-right P (cond (has_ceiling c) (ceiling_row c ∷ []) []) (ceiling_rows cs) h))
  where
    one : (b : Bool) → Each P (cond b (ceiling_row c ∷ []) []) → b ≡ true → P (ceiling_row c)
    one true k e = k.0
    one false k e = absurd (true≢false (sym e))

pub each_cut_row : (P : Row → Type 0) (cs : List Cut) → Each P (cut_rows cs) → Each (λ (c : Cut). P (cut_row c)) cs
each_cut_row P [] h = tt
each_cut_row P (c ∷ cs) h = (h.0, each_cut_row P cs h.1)

record OfRows (P : Row → Type 0) (i : Instance) (cuts : List Cut) : Type 0 where
  floors : Each (λ (c : Cell). has_floor c ≡ true → P (floor_row c)) i.cells
  ceilings : Each (λ (c : Cell). has_ceiling c ≡ true → P (ceiling_row c)) i.cells
  least : P (least_row i.heads_min)
  most : P (most_row i.heads_max)
  cut : Each (λ (c : Cut). P (cut_row c)) cuts

of_rows : (P : Row → Type 0) (i : Instance) (cuts : List Cut) → Each P (rows_of i cuts) → OfRows P i cuts
of_rows P i cuts h =
    let a = Each-right P (cell_rows i.cells) _ h in
    let b = Each-right P (floor_rows i.cells) _ a in
    let c = Each-right P (ceiling_rows i.cells) _ b in
    record {
      floors = each_floor P i.cells (Each-left P (floor_rows i.cells) _ a);
      ceilings = each_ceiling P i.cells (Each-left P (ceiling_rows i.cells) _ b);
      least = c.0;
      most = c.1.0;
      cut = each_cut_row P cuts c.1.1;
    }

both : {A : Type 0} (P Q : A → Type 0) (xs : List A) → Each P xs → Each Q xs → Each (λ x. P x × Q x) xs
both P Q [] h k = tt
both P Q (x ∷ xs) h k = ((h.0, k.0), both P Q xs h.1 k.1)

module _ (i : Instance) (cuts : List Cut) (ws : List (Weighted MasterKey)) (q : ℕ) (listed : List ArcKey) (value : ArcKey → ℕ) (sound : IsSoundInstance i) (has : HasCounts i cuts ws q listed value) where
  abbrev us : List Parts
  us = copies ws

  some : 0 < q
  some = has.solution.positive

  day : Each (IsDayTree i.grammar) us
  day = copies_day i (rows_of i cuts) ws has.solution.columns

  same : (a : ArcKey) → In a listed → q * value a ≡ arc_count a us
  same a h = sym (copies_arcs a ws ∙ has.whole a h)

  KeepsMost : Row → Type 0
  KeepsMost x = x.sense ≡ at_most → sum_n x.brings us ≤ q * x.right

  KeepsLeast : Row → Type 0
  KeepsLeast x = x.sense ≡ at_least → q * x.right ≤ sum_n x.brings us

  keep_most : OfRows KeepsMost i cuts
  unfolding KeepsMost
  keep_most = of_rows KeepsMost i cuts (each_row KeepsMost (rows_of i cuts) (λ r x l is. λ e. most_kept i (artificial_cost i) (rows_of i cuts) r x is e ws q has.solution.columns (has.solution.meets r l)))

  keep_least : (UsesArtificial i cuts ws → ⊥) → OfRows KeepsLeast i cuts
  unfolding KeepsLeast
  keep_least none = of_rows KeepsLeast i cuts (each_row KeepsLeast (rows_of i cuts)
      (λ r x l is. λ e. least_kept i (artificial_cost i) (rows_of i cuts) r x is e ws q (λ u. none (r, artificial_at i (artificial_cost i) (rows_of i cuts) r x is e, u)) (has.solution.meets r l)))

  -- ---- the counts can be split
  balanced_at : (o : OrNode) → made_sum i.grammar listed (λ a. q * value a) o ≡ used_sum i.grammar listed (λ a. q * value a) o → made_sum i.grammar listed value o ≡ used_sum i.grammar listed value o
  balanced_at o e =
      let a = scaled q value (λ a. cond (same_node o (made i.grammar a)) 1 0) listed in
      let b = scaled q value (λ a. count (same_node o) (used i.grammar a)) listed in
      cancel q (made_sum i.grammar listed value o) (used_sum i.grammar listed value o) some (sym a ∙ e ∙ b)

  pub can_be_split : CanBeSplit i listed value
  unfolding KeepsMost
  can_be_split =
      let b = trees-balanced i.grammar us listed (λ a. q * value a) day has.arcs same in
      let few = keep_most.most refl in
      let ones = sum_ones us in
      record {
        balanced = record { names = λ x s l e. balanced_at (name x s l) (b.names x s l e); suffixes = λ r k s l. balanced_at (suffix r k s l) (b.suffixes r k s l) };
        few = λ a h. cancel_le q (value a) i.heads_max some (omega (arith, same a h, arc_count-le i.grammar sound.grammar us a day));
      }

  -- ---- trees with the counts
  module _ (ts : List Parts) (have : HaveCounts i listed value ts) where
    same_ts : (a : ArcKey) → In a listed → value a ≡ arc_count a ts
    same_ts a h = sym (have.counts a h)

    arcs_scale : (a : ArcKey) → arc_count a us ≡ q * arc_count a ts
    arcs_scale a = by (is_in a listed)
      where
        by : In a listed ⊎ (In a listed → ⊥) → arc_count a us ≡ q * arc_count a ts
        by (inl h) = sym (same a h) ∙ ap (λ n. q * n) (same_ts a h)
        by (inr h) =
            let x = absent a (arcs_of us) (λ k. h (has.arcs.whole a (in_tree i.grammar a us day k))) in
            let y = absent a (arcs_of ts) (λ k. h (has.arcs.whole a (in_tree i.grammar a ts have.day k))) in
            x ∙ sym (ap (λ n. q * n) y ∙ omega arith)

    length_scale : length us ≡ q * length ts
    length_scale =
        let a = root-counts i.grammar us listed (λ a. q * value a) day has.arcs same sound.grammar in
        let b = root-counts i.grammar ts listed value have.day has.arcs same_ts sound.grammar in
        sym a ∙ scaled q value _ listed ∙ ap (λ n. q * n) b

    cover_scale : (c : Cell) → tree_cover us c ≡ q * tree_cover ts c
    cover_scale c =
        let a = leaves-count i.grammar us listed (λ a. q * value a) day has.arcs same (record { code = c.code; period = c.period }) in
        let b = leaves-count i.grammar ts listed value have.day has.arcs same_ts (record { code = c.code; period = c.period }) in
        sym a ∙ scaled q value _ listed ∙ ap (λ n. q * n) b

    cost_scale : sum_n (cost i.grammar) us ≡ q * sum_n (cost i.grammar) ts
    cost_scale =
        let a = arcs-pay i.grammar us listed (λ a. q * value a) day has.arcs same in
        let b = arcs-pay i.grammar ts listed value have.day has.arcs same_ts in
        sym a ∙ scaled q value (top_cost i.grammar) listed ∙ ap (λ n. q * n) b

    cover_few : (c : Cell) (ts : List Parts) → Each (IsDayTree i.grammar) ts → tree_cover ts c ≤ length ts
    cover_few c ts d = omega (arith, sum_cover c ts, few ts d)
      where
        few : (ts : List Parts) → Each (IsDayTree i.grammar) ts → sum_n (cell_count c) ts ≤ length ts
        few [] d = omega arith
        few (t ∷ ts) d = omega (arith, cell_once i.grammar c t d.0, few ts d.1)

    module _ (none : UsesArtificial i cuts ws → ⊥) where
      heads_few : length ts ≤ i.heads_max
      unfolding KeepsMost
      heads_few = let a = keep_most.most refl in let b = sum_ones us in cancel_le q (length ts) i.heads_max some (omega (arith, length_scale))

      heads_enough : i.heads_min ≤ length ts
      unfolding KeepsLeast
      heads_enough = let a = (keep_least none).least refl in let b = sum_ones us in cancel_le q i.heads_min (length ts) some (omega (arith, length_scale))

      cell_covered : (c : Cell) → ((has_floor c ≡ true → KeepsLeast (floor_row c)) × (has_ceiling c ≡ true → KeepsMost (ceiling_row c))) → IsCovered i ts c
      unfolding KeepsLeast KeepsMost
      cell_covered c h = record { range = record { floor = low (has_floor c) refl; ceiling = high (has_ceiling c) refl }; heads = few }
        where
          few : tree_cover ts c ≤ i.heads_max
          few = omega (arith, cover_few c ts have.day, heads_few)

          low : (b : Bool) → has_floor c ≡ b → c.floor ≤ tree_cover ts c
          low true e = let a = h.0 e refl in let s = sum_cover c us in cancel_le q c.floor (tree_cover ts c) some (omega (arith, cover_scale c))
          low false e = omega (arith, ltb-false 0 c.floor e)

          high : (b : Bool) → has_ceiling c ≡ b → tree_cover ts c ≤ c.ceiling
          high true e = let a = h.1 e refl in let s = sum_cover c us in cancel_le q (tree_cover ts c) c.ceiling some (omega (arith, cover_scale c))
          high false e = omega (arith, ltb-false c.ceiling 64 e, few, sound.few)

      pub roster : IsTreeRoster i ts
      roster = record {
        day = have.day;
        enough = heads_enough;
        few = heads_few;
        coverage = Each-weaker _ (IsCovered i ts) i.cells cell_covered (both _ _ i.cells (keep_least none).floors keep_most.ceilings);
      }

      cut_met : (c : Cut) → (KeepsLeast (cut_row c) × KeepsMost (cut_row c)) → Meets ts c
      unfolding KeepsLeast KeepsMost
      cut_met c h = by c.side c.b c.arc h
        where
          by : (s : Side) (b : ℕ) (a : ArcKey) → (((side_row s b a).sense ≡ at_least → q * (side_row s b a).right ≤ sum_n (side_row s b a).brings us) × ((side_row s b a).sense ≡ at_most → sum_n (side_row s b a).brings us ≤ q * (side_row s b a).right)) → KeepsTo s b (arc_count a ts)
          by Low b a k = let m = k.1 refl in let s = sum_arcs a us in cancel_le q (arc_count a ts) b some (omega (arith, arcs_scale a))
          by High b a k = let m = k.0 refl in let s = sum_arcs a us in cancel_le q (b + 1) (arc_count a ts) some (omega (arith, arcs_scale a))

      pub meets : Each (Meets ts) cuts
      meets = Each-weaker _ (Meets ts) cuts cut_met (both _ _ cuts (keep_least none).cut keep_most.cut)

    -- ---- what they cost
    slope : Cell → ℤ
    slope c = cond (nat_lt c.need (tree_cover ts c)) (neg_ℤ (pos 1 *ℤ pos c.over)) (pos 1 *ℤ pos c.under)

    record IsSlope (c : Cell) (s : ℤ) : Type 0 where
      above_low : neg_ℤ (pos 1 *ℤ pos c.over) ≤ℤ s
      below_high : s ≤ℤ (pos 1 *ℤ pos c.under)
      value_is : pos (penalty c (tree_cover ts c)) ≡ s *ℤ pos c.need -ℤ s *ℤ pos (tree_cover ts c)

    slope_is : (c : Cell) → IsSlope c (slope c)
    unfolding slope
    slope_is c = by (nat_lt c.need (tree_cover ts c)) refl
      where
        by : (b : Bool) → nat_lt c.need (tree_cover ts c) ≡ b → IsSlope c (cond b (neg_ℤ (pos 1 *ℤ pos c.over)) (pos 1 *ℤ pos c.under))
        by true e =
            let n = tree_cover ts c in
            let l = ltb-true c.need n e in
            let a : penalty c n ≡ c.over * (n - c.need) = (let z : c.need - n ≡ 0 = omega arith in rw z (omega arith)) in
            let s : pos (c.over * (n - c.need)) ≡ _ = ap pos (omega arith) ∙ slope_low 1 c.over c.need n (n - c.need) (omega arith) in
            record { above_low = omega (arith, ints); below_high = omega (arith, ints); value_is = ap pos a ∙ s }
        by false e =
            let n = tree_cover ts c in
            let l = ltb-false c.need n e in
            let a : penalty c n ≡ c.under * (c.need - n) = (let z : n - c.need ≡ 0 = omega arith in rw z (omega arith)) in
            let s : pos (c.under * (c.need - n)) ≡ _ = ap pos (omega arith) ∙ slope_high 1 c.under c.need n (c.need - n) (omega arith) in
            record { above_low = omega (arith, ints); below_high = omega (arith, ints); value_is = ap pos a ∙ s }

    abbrev lines : List Cell → List CellLine
    lines [] = []
    lines (c ∷ cs) = record { cell = c; own = slope c; floor = pos 0; ceiling = pos 0 } ∷ lines cs

    lines_cells : (cs : List Cell) → cells_of (lines cs) ≡ cs
    lines_cells [] = refl
    lines_cells (c ∷ cs) = ap (λ (xs : List Cell). c ∷ xs) (lines_cells cs)

    lines_good : (cs : List Cell) → Each (OfLine (IsGood (artificial_cost i) (pos 1))) (lines cs)
    lines_good [] = tt
    lines_good (c ∷ cs) =
        let s = slope_is c in
        (record { own = (s.above_low, s.below_high); floor = λ e. (omega (arith, ints), omega (arith, ints)); ceiling = λ e. omega (arith, ints) }, lines_good cs)

    no_price : (b : Bool) (z : ℤ) → cond b (pos 0 *ℤ z) (pos 0) ≡ pos 0
    no_price true z = omega (arith, ints)
    no_price false z = refl

    lines_total : (f : Row → ℤ) (cs : List Cell) → sum_z (line_total (worth f)) (lines cs) ≡ sum_z (λ (c : Cell). slope c *ℤ f (cell_row c)) cs
    lines_total f [] = refl
    lines_total f (c ∷ cs) =
        let a = no_price (has_floor c) (f (floor_row c)) in
        let b = no_price (has_ceiling c) (f (ceiling_row c)) in
        omega (arith, ints, lines_total f cs)

    abbrev zeros : List Cut → List ℤ
    zeros [] = []
    zeros (c ∷ cs) = pos 0 ∷ zeros cs

    zeros_many : (cs : List Cut) → AreMany cs (zeros cs)
    zeros_many [] = tt
    zeros_many (c ∷ cs) = zeros_many cs

    zeros_good : (cs : List Cut) → Each (IsGood (artificial_cost i) (pos 1)) (cut_numbers cs (zeros cs))
    zeros_good [] = tt
    zeros_good (c ∷ cs) = (by c.side c.b c.arc, zeros_good cs)
      where
        by : (s : Side) (b : ℕ) (a : ArcKey) → IsGood (artificial_cost i) (pos 1) (at (side_row s b a) (pos 0))
        by Low b a = omega (arith, ints)
        by High b a = (omega (arith, ints), omega (arith, ints))

    zeros_sum : (f : Row → ℤ) (cs : List Cut) → sum_z (worth f) (cut_numbers cs (zeros cs)) ≡ pos 0
    zeros_sum f [] = refl
    zeros_sum f (c ∷ cs) = omega (arith, ints, zeros_sum f cs)

    xs : List RowPrice
    xs = built i (lines i.cells) (pos 0) (pos 0) cuts (zeros cuts)

    xs_rows : rows_in xs ≡ rows_of i cuts
    unfolding xs
    xs_rows = built_rows i (lines i.cells) (pos 0) (pos 0) cuts (zeros cuts) (lines_cells i.cells) (zeros_many cuts)

    xs_good : Each (IsGood (artificial_cost i) (pos 1)) xs
    unfolding xs
    xs_good = to_built (IsGood (artificial_cost i) (pos 1)) i (lines i.cells) (pos 0) (pos 0) cuts (zeros cuts)
        (record { lines = lines_good i.cells; least = (omega (arith, ints), omega (arith, ints)); most = omega (arith, ints); numbered = zeros_good cuts })

    xs_sum : (f : Row → ℤ) → sum_z (worth f) xs ≡ sum_z (λ (c : Cell). slope c *ℤ f (cell_row c)) i.cells
    unfolding xs
    xs_sum f =
        let a = built_sum (worth f) i (lines i.cells) (pos 0) (pos 0) cuts (zeros cuts) in
        let b = lines_total f i.cells in
        let c = zeros_sum f cuts in
        omega (arith, ints)

    -- what the trees cost beside what their letters are paid
    cover_more : (u : Parts) (us : List Parts) (cs : List Cell) → sum_z (λ (c : Cell). slope c *ℤ pos (tree_cover (u ∷ us) c)) cs
        ≡ sum_z (λ (c : Cell). slope c *ℤ pos (cell_count c u)) cs +ℤ sum_z (λ (c : Cell). slope c *ℤ pos (tree_cover us c)) cs
    cover_more u us [] = refl
    cover_more u us (c ∷ cs) =
        let e : tree_cover (u ∷ us) c ≡ cell_count c u + tree_cover us c = sym (sum_cover c (u ∷ us)) ∙ ap (λ n. cell_count c u + n) (sum_cover c us) in
        let a : slope c *ℤ pos (tree_cover (u ∷ us) c) ≡ slope c *ℤ pos (cell_count c u) +ℤ slope c *ℤ pos (tree_cover us c) = ap (λ n. slope c *ℤ pos n) e ∙ times_add (slope c) (cell_count c u) (tree_cover us c) in
        omega (arith, ints, cover_more u us cs)

    trees_total : (us : List Parts) → sum_z (λ t. red_of i (artificial_cost i) (rows_in xs) (price_at xs) (pos 1) (tree t)) us ≡ pos (sum_n (cost i.grammar) us) -ℤ sum_z (λ (c : Cell). slope c *ℤ pos (tree_cover us c)) i.cells
    trees_total [] = let z = none i.cells in omega (arith, ints)
      where
        none : (cs : List Cell) → sum_z (λ (c : Cell). slope c *ℤ pos (tree_cover [] c)) cs ≡ pos 0
        none [] = refl
        none (c ∷ cs) = omega (arith, ints, none cs)
    trees_total (u ∷ us) =
        let a = listed_dot (λ (x : Row). pos (x.brings u)) xs in
        let b = xs_sum (λ (x : Row). pos (x.brings u)) in
        let c = cover_more u us i.cells in
        omega (arith, ints, trees_total us)

    cells_pay : (cs : List Cell) → pos q *ℤ pos (sum_n (λ (c : Cell). penalty c (tree_cover ts c)) cs)
        ≡ pos q *ℤ sum_z (λ (c : Cell). slope c *ℤ pos c.need) cs -ℤ sum_z (λ (c : Cell). slope c *ℤ pos (tree_cover us c)) cs
    cells_pay [] = omega (arith, ints)
    cells_pay (c ∷ cs) =
        let n = tree_cover ts c in
        let s = slope c in
        let v = (slope_is c).value_is in
        let a : pos q *ℤ pos (penalty c n) ≡ pos q *ℤ (s *ℤ pos c.need) -ℤ pos q *ℤ (s *ℤ pos n) = ap (λ (z : ℤ). pos q *ℤ z) v ∙ *ℤ--ℤ (pos q) (s *ℤ pos c.need) (s *ℤ pos n) in
        let b : pos q *ℤ (s *ℤ pos n) ≡ s *ℤ pos (tree_cover us c) = swapped q s (pos n) ∙ ap (λ (z : ℤ). s *ℤ z) (sym (ap pos (cover_scale c))) in
        let d = *ℤ-+ℤ (pos q) (s *ℤ pos c.need) (sum_z (λ (c : Cell). slope c *ℤ pos c.need) cs) in
        let e = *ℤ-+ℤ (pos q) (pos (penalty c n)) (pos (sum_n (λ (c : Cell). penalty c (tree_cover ts c)) cs)) in
        let r = cells_pay cs in
        finish (pos q *ℤ pos (penalty c n)) (pos q *ℤ (s *ℤ pos c.need)) (pos q *ℤ (s *ℤ pos n)) (s *ℤ pos (tree_cover us c)) _ _ _ _ _ a b d e r
      where
        finish : (P Sn Sc Su R Q V W T : ℤ) → P ≡ Sn -ℤ Sc → Sc ≡ Su → W ≡ Sn +ℤ Q → T ≡ P +ℤ R → R ≡ Q -ℤ V → T ≡ W -ℤ (Su +ℤ V)
        finish P Sn Sc Su R Q V W T a b d e r = omega (arith, ints)

    cost_kept : (rows : List Row) → rows_in xs ≡ rows → IsSolution (program_of i rows) ws q → (pos q *ℤ pos (trees_cost i ts)) ≤ℤ cost_of (program_of i rows).column ws
    cost_kept rows e solution = subst (λ (rs : List Row). (pos q *ℤ pos (trees_cost i ts)) ≤ℤ cost_of (program_of i rs).column ws) e (at_xs (subst (λ (rs : List Row). IsSolution (program_of i rs) ws q) (sym e) solution))
      where
        at_xs : IsSolution (program_of i (rows_in xs)) ws q → (pos q *ℤ pos (trees_cost i ts)) ≤ℤ cost_of (program_of i (rows_in xs)).column ws
        at_xs s =
            let m = length (rows_in xs) in
            let right = number_at (λ (x : Row). pos x.right) (rows_in xs) in
            let a = trees_reduced i (artificial_cost i) (rows_in xs) (price_at xs) (pos 1) (out_missing i (pos 1) xs xs_good) (out_beyond i (pos 1) xs xs_good) ws s.columns in
            let b = trees_total us in
            let c : dot m (price_at xs) (brought (column_of i (artificial_cost i) (rows_in xs)) ws) ≡ pos q *ℤ sum_z (λ (c : Cell). slope c *ℤ pos c.need) i.cells =
            dot-same_right m (price_at xs) _ (λ r. pos q *ℤ right r) s.meets ∙ dot-scale_right m (pos q) (price_at xs) right
            ∙ ap (λ (z : ℤ). pos q *ℤ z) (listed_dot (λ (x : Row). pos x.right) xs ∙ xs_sum (λ (x : Row). pos x.right)) in
            let d = cells_pay i.cells in
            let f = *ℤ-+ℤ (pos q) (pos (sum_n (cost i.grammar) ts)) (pos (sum_n (λ (c : Cell). penalty c (tree_cover ts c)) i.cells)) in
            let g : pos q *ℤ pos (sum_n (cost i.grammar) ts) ≡ pos (sum_n (cost i.grammar) us) = ap pos (sym cost_scale) in
            finish _ _ _ _ _ _ _ _ _ a b c d f g
          where
            one : (z : ℤ) → pos 1 *ℤ z ≡ z
            one (pos z) = omega (arith, ints)
            one (negsuc z) = omega (arith, ints)

            finish : (R D C U V N T P Q : ℤ) → (R +ℤ D) ≤ℤ (pos 1 *ℤ C) → R ≡ U -ℤ V → D ≡ N → P ≡ N -ℤ V → T ≡ Q +ℤ P → Q ≡ U → T ≤ℤ C
            finish R D C U V N T P Q a b c d f g = let o = one C in omega (arith, ints)

    pub meet_node : UsesArtificial i cuts ws ⊎ MeetNode i cuts ws q ts
    meet_node = by (uses_is (rows_of i cuts) ws)
      where
        by : UsesArtificial i cuts ws ⊎ (UsesArtificial i cuts ws → ⊥) → UsesArtificial i cuts ws ⊎ MeetNode i cuts ws q ts
        by (inl u) = inl u
        by (inr none) = inr (record { roster = roster none; meets = meets none; cost = cost_kept (rows_of i cuts) xs_rows has.solution })
