-- The reduced cost of one tree, and what a barren instance is not.
use Rattle.std.proofs.Common.{◌≡◌, ℕ, ℤ, arith, pos, neg_ℤ, ◌+ℤ◌, ◌*ℤ◌, ◌≤ℤ◌, ◌≤◌, ◌<◌, min, Option, None, Some, List, [], ◌∷◌, ◌++◌, refl, sym, ap, ◌∙◌, subst, ◌⊎◌, inl, inr, append-nil}
use Rattle.std.proofs.lemmas.Int.{ints}
use Rattle.model_rosters.specs.declared.grammar.ArcKey.{ArcKey}
use Rattle.model_rosters.specs.declared.grammar.Grammar.{Grammar}
use Rattle.model_rosters.specs.declared.instance.Cell.{Cell}
use Rattle.model_rosters.specs.declared.instance.Cut.{Cut}
use Rattle.model_rosters.specs.declared.instance.Instance.{Instance}
use Rattle.model_rosters.specs.declared.instance.Prices.{Prices}
use Rattle.model_rosters.specs.Trees.{Parts, IsDayTree}
use Rattle.model_rosters.specs.Sums.{AtMost, tree_sum}
use Rattle.model_rosters.specs.Folds.{sum_z, sum_n, count, Each, In}
use Rattle.model_rosters.specs.Arcs.{Letter, letters, arcs, cost, rule_cost, same_arc}
use Rattle.model_rosters.specs.Coverage.{is_at}
use Rattle.model_rosters.specs.Reduced.{CellPrice, CutPrice, cell_prices, cut_prices, signed, letter_price, arc_price, reduced_view}
use Rattle.model_rosters.proofs.EachLemmas.{Each-in}
use Rattle.law_bounds.specs.Infeasible.{IsPlainlyInfeasible}
use Rattle.law_bounds.specs.Lagrangian.{IsLeastReduced}
use Rattle.law_bounds.proofs.TreeValues.{tree_sum-value}
use Rattle.law_bounds.proofs.Relaxation.{reduced_of, reduced_total}
use Rattle.law_bounds.specs.master_laws.Rows.{cell_count, tree_arcs}

module _ (g : Grammar) (d : ℕ) (ps : List CellPrice) (ks : List CutPrice) where
  pub one_total : (t : Parts) → reduced_of g d ps ks t
      ≡ neg_ℤ (sum_z (λ (q : CellPrice). q.price *ℤ pos (cell_count q.cell t)) ps) +ℤ sum_z (λ (k : CutPrice). signed k.cut.side k.mult *ℤ pos (tree_arcs k.cut.arc t)) ks +ℤ pos d *ℤ pos (cost g t)
  one_total t =
      let a = reduced_total g d ps ks (t ∷ []) in
      let l : letters 1 t ++ [] ≡ letters 1 t = append-nil (letters 1 t) in
      let m : arcs 1 t ++ [] ≡ arcs 1 t = append-nil (arcs 1 t) in
      let e1 = ap (λ (xs : List Letter). sum_z (λ (q : CellPrice). q.price *ℤ pos (count (is_at q.cell) xs)) ps) l in
      let e2 = ap (λ (xs : List ArcKey). sum_z (λ (k : CutPrice). signed k.cut.side k.mult *ℤ pos (count (same_arc k.cut.arc) xs)) ks) m in
      let e3 : pos d *ℤ pos (sum_n (cost g) (t ∷ [])) ≡ pos d *ℤ pos (cost g t) = ap (λ n. pos d *ℤ pos n) (omega arith) in
      omega (arith, ints)

-- the least reduced cost is that of some tree, where the day has one
pub record IsAttained (i : Instance) (p : Prices) (cuts : List Cut) (z : ℤ) : Type 0 where
  pub some : Parts
  pub day : IsDayTree i.grammar some
  pub value : reduced_of i.grammar p.d (cell_prices i.cells p.cell) (cut_prices 1 cuts p.mult) some ≡ z

some_is : (x y : ℤ) → Some x ≡ Some y → x ≡ y
some_is x y e = ap (λ (o : Option ℤ). elim o as (λ v. ℤ) [ None ↦ pos 0 | Some v ↦ v ]) e

module _ (i : Instance) (p : Prices) (cuts : List Cut) where
  abbrev pub red : Parts → ℤ
  red t = reduced_of i.grammar p.d (cell_prices i.cells p.cell) (cut_prices 1 cuts p.mult) t

  pub tree_red : (t : Parts) → IsDayTree i.grammar t → tree_sum (reduced_view i p cuts) 1 t ≡ Some (red t)
  tree_red t h = tree_sum-value (λ l. neg_ℤ (letter_price (cell_prices i.cells p.cell) l)) (arc_price (cut_prices 1 cuts p.mult)) (λ r. pos p.d *ℤ pos (rule_cost i.grammar r)) i.grammar t h

  pub attained : (z : Option ℤ) (t : Parts) → IsLeastReduced i p cuts z → IsDayTree i.grammar t → (v : ℤ) × (z ≡ Some v) × IsAttained i p cuts v
  attained None t least h = absurd (subst (λ (o : Option ℤ). AtMost None o) (tree_red t h) (least.least.least t h))
  attained (Some v) t least h =
      let a = least.least.attained in
      (v, refl, record { some = a.0; day = a.1; value = some_is (red a.0) v (sym (tree_red a.0 a.1) ∙ a.2) })

  pub no_tree : (t : Parts) → IsLeastReduced i p cuts None → IsDayTree i.grammar t → ⊥
  no_tree t least h = subst (λ (o : Option ℤ). AtMost None o) (tree_red t h) (least.least.least t h)

  pub least_red : (z : ℤ) (t : Parts) → IsLeastReduced i p cuts (Some z) → IsDayTree i.grammar t → z ≤ℤ red t
  least_red z t least h = subst (λ (o : Option ℤ). AtMost (Some z) o) (tree_red t h) (least.least.least t h)

-- where the instance is not barren each cell has a count in its range
pub cells_have : (i : Instance) → (IsPlainlyInfeasible i → ⊥) → Each (λ (c : Cell). c.floor ≤ min c.ceiling i.heads_max) i.cells
cells_have i busy = Each-in (λ (c : Cell). c.floor ≤ min c.ceiling i.heads_max) i.cells (λ c h. by c h (either c.floor (min c.ceiling i.heads_max)))
  where
    either : (a b : ℕ) → (a ≤ b) ⊎ (b < a)
    either a b = grind arith

    by : (c : Cell) → In c i.cells → (c.floor ≤ min c.ceiling i.heads_max) ⊎ (min c.ceiling i.heads_max < c.floor) → c.floor ≤ min c.ceiling i.heads_max
    by c h (inl l) = l
    by c h (inr l) = absurd (busy (inr (c, record { cell = h; none = l })))
