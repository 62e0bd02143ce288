-- The reduced cost of a tree, by its cost, its letters and its arcs.
use Rattle.std.proofs.Common.{◌≡◌, ℤ, arith, pos, neg_ℤ, ◌+ℤ◌, ◌-ℤ◌, ◌*ℤ◌, Some, List, ap, ◌∙◌}
use Rattle.std.proofs.lemmas.Int.{ints}
use Rattle.model_rosters.specs.declared.instance.Cut.{Cut}
use Rattle.model_rosters.specs.declared.instance.Instance.{Instance}
use Rattle.model_rosters.specs.declared.instance.Prices.{Prices}
use Rattle.model_rosters.specs.Trees.{Parts, IsDayTree}
use Rattle.model_rosters.specs.Sums.{tree_sum}
use Rattle.model_rosters.specs.Folds.{sum_z}
use Rattle.model_rosters.specs.Arcs.{letters, arcs, used_rules, rule_cost, cost}
use Rattle.model_rosters.specs.Reduced.{cell_prices, cut_prices, letter_price, arc_price, reduced_view}
use Rattle.law_bounds.proofs.TreeValues.{tree_sum-value}
use Rattle.law_bounds.proofs.WholeSums.{sum_z-neg, sum_z-scale, sum_z-pos}

pub reduced-cost : (i : Instance) (p : Prices) (cuts : List Cut) (t : Parts) → IsDayTree i.grammar t
    → tree_sum (reduced_view i p cuts) 1 t
    ≡ Some (pos p.d *ℤ pos (cost i.grammar t) -ℤ sum_z (letter_price (cell_prices i.cells p.cell)) (letters 1 t) +ℤ sum_z (arc_price (cut_prices 1 cuts p.mult)) (arcs 1 t))
reduced-cost i p cuts t day =
    let ps = cell_prices i.cells p.cell in
    let ks = cut_prices 1 cuts p.mult in
    let g = i.grammar in
    let e = tree_sum-value (λ l. neg_ℤ (letter_price ps l)) (arc_price ks) (λ r. pos p.d *ℤ pos (rule_cost g r)) g t day in
    let n = sum_z-neg (letter_price ps) (letters 1 t) in
    let c = sum_z-scale (pos p.d) (λ r. pos (rule_cost g r)) (used_rules t) ∙ ap (λ (z : ℤ). pos p.d *ℤ z) (sum_z-pos (rule_cost g) (used_rules t)) in
    e ∙ ap (λ (z : ℤ). Some z) (omega (arith, ints, n, c))
