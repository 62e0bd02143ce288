-- The worked day of best prices.
use Rattle.std.proofs.Common.{◌≡◌, ℕ, ℤ, arith, pos, negsuc, ◌+ℤ◌, ◌-ℤ◌, ◌*ℤ◌, ◌≤ℤ◌, ◌<◌, ◌+◌, Option, None, Some, List, [], ◌∷◌, refl, sym, ap, ◌∙◌, subst, ◌⊎◌, inl, inr}
use Rattle.std.proofs.lemmas.Int.{ints}
use Rattle.model_rosters.specs.declared.instance.Cell.{Cell}
use Rattle.model_rosters.specs.declared.instance.Prices.{Prices}
use Rattle.model_rosters.specs.Trees.{Parts, IsDayTree}
use Rattle.model_rosters.specs.Sums.{IsLeast, AtMost, tree_sum}
use Rattle.model_rosters.specs.Folds.{sum_z, In}
use Rattle.model_rosters.specs.Arcs.{letters, arcs, cost}
use Rattle.model_rosters.specs.Reduced.{CellPrice, cell_prices, letter_price, arc_price, reduced_view}
use Rattle.model_rosters.specs.GreatestCost.{greatest_cost}
use Rattle.model_rosters.specs.Teams.{Team, teams}
use Rattle.law_bounds.specs.BestPrices.{IsRival, AreBest}
use Rattle.law_bounds.specs.Infeasible.{IsPlainlyInfeasible}
use Rattle.law_bounds.specs.Lagrangian.{trees_share, cell_share, lagrangian_sum, IsLeastReduced, IsLagrangian}
use Rattle.law_bounds.specs.WorkedBest.{ones, zeros, WorkedBest}
use Rattle.law_bounds.proofs.ReducedCosts.{reduced-cost}
use Rattle.law_bounds.proofs.Relaxation.{cell_share-le}
use Rattle.law_bounds.proofs.OneValue.{one-lagrangian}
use Rattle.law_bounds.specs.WorkedDay.{one, day, first, second, third}
use Rattle.law_bounds.proofs.WorkedDayLemmas.{is_tree, day_first, day_second, day_third}

-- ---- the day is not plainly infeasible
busy : IsPlainlyInfeasible day → ⊥
busy (inl (t, h)) = by t h.team h.needs
  where
    by : (t : Team) → In t (teams day) → 0 < t.least → ⊥
    by t (inl e) l = let z = ap (λ (x : Team). x.least) e in omega (arith, z, l)
    by t (inr h) l = h
busy (inr (c, h)) = let n = h.none in by c h.cell (omega (arith, n))
  where
    by : (c : Cell) → In c day.cells → 0 < c.floor → ⊥
    by c (inl e) l = let z = ap (λ (x : Cell). x.floor) e in omega (arith, z, l)
    by c (inr (inl e)) l = let z = ap (λ (x : Cell). x.floor) e in omega (arith, z, l)
    by c (inr (inr (inl e))) l = let z = ap (λ (x : Cell). x.floor) e in omega (arith, z, l)
    by c (inr (inr (inr h))) l = h

-- ---- the values of the two prices
all_trees : (P : Parts → Type 0) → P first → P second → P third → (t : Parts) → IsDayTree day.grammar t → P t
all_trees P a b c t d = by (is_tree t d)
  where
    by : (t ≡ first) ⊎ (t ≡ second) ⊎ (t ≡ third) → P t
    by (inl e) = subst P (sym e) a
    by (inr (inl e)) = subst P (sym e) b
    by (inr (inr e)) = subst P (sym e) c

ones_least : IsLeastReduced day ones [] (Some (pos 0))
ones_least = record {
  least = record {
    attained = (first, day_first, refl);
    least = all_trees (λ (t : Parts). AtMost (Some (pos 0)) (tree_sum (reduced_view day ones []) 1 t)) (omega (arith, ints)) (omega (arith, ints)) (omega (arith, ints));
  };
}

ones-value : IsLagrangian day ones [] (pos 3)
ones-value = record { z = Some (pos 0); least = ones_least; value = inr (busy, refl) }

zeros_least : IsLeastReduced day zeros [] (Some (pos 2))
zeros_least = record {
  least = record {
    attained = (first, day_first, refl);
    least = all_trees (λ (t : Parts). AtMost (Some (pos 2)) (tree_sum (reduced_view day zeros []) 1 t)) (omega (arith, ints)) (omega (arith, ints)) (omega (arith, ints));
  };
}

zeros-value : IsLagrangian day zeros [] (pos 0)
zeros-value = record { z = Some (pos 2); least = zeros_least; value = inr (busy, refl) }

-- ---- no rival shows more than 3
-- the cells with their prices
record Cells (cs : List ℤ) : Type 0 where
  a : ℤ
  b : ℤ
  c : ℤ
  are : cell_prices day.cells cs ≡ record { cell = one 1; price = a } ∷ record { cell = one 2; price = b } ∷ record { cell = one 3; price = c } ∷ []

cells_of : (cs : List ℤ) → Cells cs
cells_of [] = record { a = pos 0; b = pos 0; c = pos 0; are = refl }
cells_of (x ∷ []) = record { a = x; b = pos 0; c = pos 0; are = refl }
cells_of (x ∷ y ∷ []) = record { a = x; b = y; c = pos 0; are = refl }
cells_of (x ∷ y ∷ z ∷ cs) = record { a = x; b = y; c = z; are = refl }

module _ (p : Prices) (k : Cells p.cell) where
  paid : (t : Parts) → IsDayTree day.grammar t → (x : ℤ) → sum_z (letter_price (record { cell = one 1; price = k.a } ∷ record { cell = one 2; price = k.b } ∷ record { cell = one 3; price = k.c } ∷ [])) (letters 1 t) ≡ x
      → sum_z (arc_price []) (arcs 1 t) ≡ pos 0 → cost day.grammar t ≡ 2 → tree_sum (reduced_view day p []) 1 t ≡ Some (pos p.d *ℤ pos 2 -ℤ x)
  paid t d x e f g =
      let r = reduced-cost day p [] t d in
      let e' : sum_z (letter_price (cell_prices day.cells p.cell)) (letters 1 t) ≡ x = ap (λ (ps : List CellPrice). sum_z (letter_price ps) (letters 1 t)) k.are ∙ e in
      let h = ap (λ (n : ℕ). pos p.d *ℤ pos n) g in
      r ∙ ap (λ (z : ℤ). Some z) (omega (arith, ints, e', f, h))

  at_most : (z : ℤ) → IsLeast (IsDayTree day.grammar) (tree_sum (reduced_view day p []) 1) (Some z) → (t : Parts) → IsDayTree day.grammar t → (y : ℤ) → tree_sum (reduced_view day p []) 1 t ≡ Some y → z ≤ℤ y
  at_most z h t d y e = subst (λ (o : Option ℤ). AtMost (Some z) o) e (h.least t d)

  three-trees : (z : ℤ) → IsLeast (IsDayTree day.grammar) (tree_sum (reduced_view day p []) 1) (Some z)
      → (z ≤ℤ (pos p.d *ℤ pos 2 -ℤ (k.a +ℤ k.b))) × (z ≤ℤ (pos p.d *ℤ pos 2 -ℤ (k.b +ℤ k.c))) × (z ≤ℤ (pos p.d *ℤ pos 2 -ℤ (k.a +ℤ k.c)))
  three-trees z h = (
    at_most z h first day_first _ (paid first day_first (k.a +ℤ k.b) (omega (arith, ints)) refl refl),
    at_most z h second day_second _ (paid second day_second (k.b +ℤ k.c) (omega (arith, ints)) refl refl),
    at_most z h third day_third _ (paid third day_third (k.a +ℤ k.c) (omega (arith, ints)) refl refl),
  )

  cells-at-one : sum_z (cell_share p.d 3) (cell_prices day.cells p.cell) ≤ℤ (k.a +ℤ k.b +ℤ k.c)
  cells-at-one =
      let a = cell_share-le p.d 3 (record { cell = one 1; price = k.a }) 1 (omega arith) (omega arith) (omega arith) in
      let b = cell_share-le p.d 3 (record { cell = one 2; price = k.b }) 1 (omega arith) (omega arith) (omega arith) in
      let c = cell_share-le p.d 3 (record { cell = one 3; price = k.c }) 1 (omega arith) (omega arith) (omega arith) in
      let e = ap (λ (ps : List CellPrice). sum_z (cell_share p.d 3) ps) k.are in
      sums p.d (cell_share p.d 3 (record { cell = one 1; price = k.a })) (cell_share p.d 3 (record { cell = one 2; price = k.b })) (cell_share p.d 3 (record { cell = one 3; price = k.c })) _ k.a k.b k.c e a b c
    where
      sums : (d : ℕ) (x y z s a b c : ℤ) → s ≡ x +ℤ (y +ℤ (z +ℤ pos 0)) → x ≤ℤ (pos d *ℤ pos 0 +ℤ a *ℤ pos 1) → y ≤ℤ (pos d *ℤ pos 0 +ℤ b *ℤ pos 1) → z ≤ℤ (pos d *ℤ pos 0 +ℤ c *ℤ pos 1) → s ≤ℤ (a +ℤ b +ℤ c)
      sums d x y z s a b c e f g h = omega (arith, ints)

  heads : (z : ℤ) → (pos 2 *ℤ trees_share 0 3 (Some z)) ≤ℤ (pos 3 *ℤ z)
  heads (pos n) = omega (arith, ints)
  heads (negsuc n) = omega (arith, ints)

  no-more : (z : Option ℤ) → IsLeast (IsDayTree day.grammar) (tree_sum (reduced_view day p []) 1) z → lagrangian_sum day p [] z ≤ℤ (pos 3 *ℤ pos p.d)
  no-more None h = absurd (subst (λ (o : Option ℤ). AtMost None o) (paid first day_first (k.a +ℤ k.b) (omega (arith, ints)) refl refl) (h.least first day_first))
  no-more (Some z) h =
      let t = three-trees z h in
      let c = cells-at-one in
      finish (trees_share 0 3 (Some z)) z (sum_z (cell_share p.d 3) (cell_prices day.cells p.cell)) k.a k.b k.c p.d (heads z) t.0 t.1 t.2 c
    where
      finish : (s z r a b c : ℤ) (d : ℕ) → (pos 2 *ℤ s) ≤ℤ (pos 3 *ℤ z) → z ≤ℤ (pos d *ℤ pos 2 -ℤ (a +ℤ b)) → z ≤ℤ (pos d *ℤ pos 2 -ℤ (b +ℤ c)) → z ≤ℤ (pos d *ℤ pos 2 -ℤ (a +ℤ c))
          → r ≤ℤ (a +ℤ b +ℤ c) → (s +ℤ r +ℤ pos 0) ≤ℤ (pos 3 *ℤ pos d)
      finish s z r a b c d h x y w q = omega (arith, ints)

rival-less : (p : Prices) (w : ℤ) → IsLagrangian day p [] w → w ≤ℤ (pos 3 *ℤ pos p.d)
rival-less p w h = by h.value
  where
    by : (IsPlainlyInfeasible day × (w ≡ pos p.d *ℤ pos (greatest_cost day + 1))) ⊎ ((IsPlainlyInfeasible day → ⊥) × (w ≡ lagrangian_sum day p [] h.z)) → w ≤ℤ (pos 3 *ℤ pos p.d)
    by (inl k) = absurd (busy k.0)
    by (inr k) = let n = no-more p (cells_of p.cell) h.z h.least.least in rw k.1 n

ones-best : AreBest day ones []
ones-best = record {
  best = λ t d rival is v w own other.
      let e = one-lagrangian day ones [] v (pos 3) own ones-value in
      let l = rival-less rival w other in
      close v w rival.d e l;
}
  where
    close : (v w : ℤ) (d : ℕ) → v ≡ pos 3 → w ≤ℤ (pos 3 *ℤ pos d) → (w *ℤ pos 1) ≤ℤ ((v +ℤ pos 0) *ℤ pos d)
    close v w d e l = rw e (omega (arith, ints))

ones-rival : IsRival day ones []
ones-rival = record {
  some = omega arith;
  mults = tt;
  least = λ z h. (let l : z ≤ℤ pos 0 = h.least.least first day_first in omega (arith, ints));
  floors = (λ l. absurd (omega (arith, l)), (λ l. absurd (omega (arith, l)), (λ l. absurd (omega (arith, l)), tt)));
}

zeros-worse : AreBest day zeros [] → ⊥
zeros-worse h =
    let l : (pos 3 *ℤ pos 1) ≤ℤ ((pos 0 +ℤ pos 0) *ℤ pos 1) = h.best first day_first ones ones-rival (pos 0) (pos 3) zeros-value ones-value in
    omega (arith, ints)

pub worked-best : WorkedBest
worked-best = record { ones_value = ones-value; zeros_value = zeros-value; best = ones-best; worse = zeros-worse }
