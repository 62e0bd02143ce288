-- What weighted trees lack of the rows of High cuts.
use Rattle.std.proofs.Common.{◌≡◌, ℕ, arith, ◌+◌, ◌*◌, ◌≤◌, ◌<◌, cond, List, [], ◌∷◌, ◌++◌, refl, ap, subst, ◌⊎◌, inl, inr, max}
use Rattle.std.proofs.Math.Nat.{mul-le-mul_left}
use Rattle.model_rosters.specs.declared.grammar.ArcKey.{ArcKey}
use Rattle.model_rosters.specs.declared.instance.Cut.{Cut}
use Rattle.model_rosters.specs.declared.instance.Instance.{Instance}
use Rattle.model_rosters.specs.declared.instance.Side.{Side}
use Rattle.model_rosters.specs.declared.instance.Side.TheVariants.{Low, High}
use Rattle.model_rosters.specs.Arcs.{same_arc}
use Rattle.model_rosters.specs.Cuts.{at_least as least_on, lo}
use Rattle.model_rosters.specs.Folds.{sum_n}
use Rattle.model_rosters.specs.Trees.{Parts}
use Rattle.model_rosters.proofs.arc_laws.FoldsLemmas.{sum_n-append}
use Rattle.model_rosters.proofs.arc_laws.SameArc.{Told, arc_tells}
use Rattle.law_bounds.specs.linear_programs.Solution.{Weighted}
use Rattle.law_bounds.specs.master_laws.Rows.{Row, rows_of, side_row, cell_rows, floor_rows, ceiling_rows, least_row, most_row, cut_rows, tree_arcs}
use Rattle.law_bounds.specs.near_laws.Completed.{trees_bring}
use Rattle.law_bounds.specs.near_laws.NearSharp.{IsWellBetween, LackMuch, lacking, near_weight}

trees_bring_is : (b : ℕ) (a : ArcKey) (ws : List (Weighted Parts)) → trees_bring (side_row High b a) ws ≡ near_weight a ws
trees_bring_is b a [] = refl
trees_bring_is b a (w ∷ ws) = ap (λ (n : ℕ). w.weight * tree_arcs a w.key + n) (trees_bring_is b a ws)

module _ (q : ℕ) (ws : List (Weighted Parts)) where
  greater : (x y n : ℕ) → q * x ≤ n → q * y ≤ n → q * max x y ≤ n
  greater x y n l m = pick (either x y)
    where
      either : (x y : ℕ) → (x ≤ y) ⊎ (y ≤ x)
      either x y = grind arith

      pick : (x ≤ y) ⊎ (y ≤ x) → q * max x y ≤ n
      pick (inl k) = let e : max x y ≡ y = omega arith in rw e m
      pick (inr k) = let e : max x y ≡ x = omega arith in rw e l

  -- the least count that the cuts leave an arc is met by the trees with it and what the cuts' rows lack
  least_met : (a : ArcKey) (cs : List Cut) → q * lo cs a ≤ near_weight a ws + sum_n (lacking q ws) (cut_rows cs)
  least_met a [] = omega arith
  least_met a (c ∷ cs) = by c.side c.b c.arc (arc_tells c.arc a) (least_met a cs)
    where
      by : (s : Side) (b : ℕ) (x : ArcKey) → Told x a → q * lo cs a ≤ near_weight a ws + sum_n (lacking q ws) (cut_rows cs)
          → q * max (cond (same_arc x a) (least_on s b) 0) (lo cs a) ≤ near_weight a ws + (lacking q ws (side_row s b x) + sum_n (lacking q ws) (cut_rows cs))
      by s b x (inr t) ih = rw t.0 (greater 0 (lo cs a) (near_weight a ws + (lacking q ws (side_row s b x) + sum_n (lacking q ws) (cut_rows cs))) (omega arith) (omega (arith, ih)))
      by Low b x (inl t) ih = rw t.0 (greater 0 (lo cs a) (near_weight a ws + (lacking q ws (side_row Low b x) + sum_n (lacking q ws) (cut_rows cs))) (omega arith) (omega (arith, ih)))
      by High b x (inl t) ih =
          let e : trees_bring (side_row High b x) ws ≡ near_weight a ws = subst (λ (y : ArcKey). trees_bring (side_row High b x) ws ≡ near_weight y ws) t.2 (trees_bring_is b x ws) in
          let m : q * (b + 1) ≤ near_weight a ws + (lacking q ws (side_row High b x) + sum_n (lacking q ws) (cut_rows cs)) = omega (arith, e) in
          rw t.0 (greater (b + 1) (lo cs a) (near_weight a ws + (lacking q ws (side_row High b x) + sum_n (lacking q ws) (cut_rows cs))) m (omega (arith, ih)))

  sum_right : (xs ys : List Row) → sum_n (lacking q ws) ys ≤ sum_n (lacking q ws) (xs ++ ys)
  sum_right xs ys = let e = sum_n-append (lacking q ws) xs ys in omega (arith, e)

  cuts_lack : (i : Instance) (cuts : List Cut) → sum_n (lacking q ws) (cut_rows cuts) ≤ sum_n (lacking q ws) (rows_of i cuts)
  cuts_lack i cuts =
      let heads = least_row i.heads_min ∷ most_row i.heads_max ∷ cut_rows cuts in
      let a = sum_right (least_row i.heads_min ∷ most_row i.heads_max ∷ []) (cut_rows cuts) in
      let b = sum_right (ceiling_rows i.cells) heads in
      let c = sum_right (floor_rows i.cells) (ceiling_rows i.cells ++ heads) in
      let d = sum_right (cell_rows i.cells) (floor_rows i.cells ++ (ceiling_rows i.cells ++ heads)) in
      omega (arith, a, b, c, d)

  -- where the weight is well between f and f + 1, which is at most the least count
  pub lack_much : (i : Instance) (cuts : List Cut) (a : ArcKey) (f : ℕ) → IsWellBetween q f (near_weight a ws) → f < lo cuts a → LackMuch i cuts q ws
  lack_much i cuts a f well less =
      let n : f + 1 ≤ lo cuts a = omega (arith, less) in
      let l = mul-le-mul_left q n in
      let m = least_met a cuts in
      let s = cuts_lack i cuts in
      omega (arith, well.below, l, m, s)
