-- The Lagrangian value is at most the cost of each roster of trees that meets the cuts.
use Rattle.std.proofs.Common.{◌≡◌, ℕ, ℤ, zero, suc, arith, pos, negsuc, neg_ℤ, ◌+ℤ◌, ◌*ℤ◌, ◌≤ℤ◌, ◌+◌, ◌-◌, ◌≤◌, min, Option, None, Some, List, [], ◌∷◌, length, refl, ap, ◌∙◌, ◌⊎◌, inl, inr, subst, Bool, true, false, cond, nat_eq}
use Rattle.std.proofs.Math.Nat.{mul-le-mul_left, mul-le-mul_right}
use Rattle.std.proofs.lemmas.Int.{ints, clamps}
use Rattle.std.specs.Int.{int_min}
use Rattle.model_rosters.specs.declared.grammar.Grammar.{Grammar}
use Rattle.model_rosters.specs.declared.instance.Cell.{Cell}
use Rattle.model_rosters.specs.declared.instance.Cut.{Cut}
use Rattle.model_rosters.specs.declared.instance.Mult.{Mult}
use Rattle.model_rosters.specs.declared.instance.Instance.{Instance}
use Rattle.model_rosters.specs.declared.instance.Prices.{Prices}
use Rattle.model_rosters.specs.declared.instance.Side.{Side}
use Rattle.model_rosters.specs.declared.instance.Side.TheVariants.{Low, High}
use Rattle.model_rosters.specs.Trees.{Parts, IsDayTree}
use Rattle.model_rosters.specs.Sums.{IsLeast, AtMost, tree_sum}
use Rattle.model_rosters.specs.Folds.{sum_z, sum_n, Each}
use Rattle.model_rosters.specs.Arcs.{letters, arcs, used_rules, rule_cost, cost, same_arc}
use Rattle.model_rosters.specs.Coverage.{is_at, penalty}
use Rattle.law_bounds.proofs.linear_programs.Ring.{*ℤ-+ℤ, neg-*ℤ}
use Rattle.law_bounds.proofs.WholeSums.{sum_z-append, sum_z-add, sum_z-neg, sum_z-scale, sum_z-pos, sum_z-le, exchange}
use Rattle.law_bounds.proofs.TreeValues.{tree_value, tree_sum-value}
use Rattle.model_rosters.specs.Cuts.{arcs_of, arc_count, KeepsTo, Meets}
use Rattle.model_rosters.specs.Reduced.{CellPrice, CutPrice, cell_prices, cut_prices, mult_of, signed, letter_price, arc_price, view_of}
use Rattle.model_rosters.proofs.EachLemmas.{Each-weaker}
use Rattle.law_bounds.specs.Lagrangian.{trees_share, least_from, cell_at, cell_share, share_of, cut_share, lagrangian_sum, IsLeastReduced}
use Rattle.model_rosters.specs.arc_laws.TreeLists.{letters_of}
use Rattle.law_bounds.specs.TreeRosters.{tree_cover, IsCovered, IsTreeRoster, trees_cost}

pub mul_mono : (m : ℤ) (a b : ℕ) → pos 0 ≤ℤ m → a ≤ b → (m *ℤ pos a) ≤ℤ (m *ℤ pos b)
mul_mono (pos m) a b h k = omega (arith, ints, mul-le-mul_left m k)
mul_mono (negsuc m) a b h k = absurd (omega (arith, ints))

len_times : (z : ℤ) (f : Parts → ℤ) (ts : List Parts) → Each (λ t. z ≤ℤ f t) ts → (pos (length ts) *ℤ z) ≤ℤ sum_z f ts
len_times z f [] h = omega (arith, ints)
len_times z f (t ∷ ts) h =
    let e : pos (length (t ∷ ts)) *ℤ z ≡ z +ℤ pos (length ts) *ℤ z = suc_times z (length ts) in
    omega (arith, ints, h.0, len_times z f ts h.1)
  where
    suc_times : (z : ℤ) (n : ℕ) → pos (suc n) *ℤ z ≡ z +ℤ pos n *ℤ z
    suc_times (pos z) n = omega (arith, ints)
    suc_times (negsuc z) n = omega (arith, ints)

trees_share_times : (a b n : ℕ) (z : ℤ) → a ≤ n → n ≤ b → trees_share a b (Some z) ≤ℤ (pos n *ℤ z)
trees_share_times a b n (pos z) h k = omega (arith, ints, mul-le-mul_right z h)
trees_share_times a b n (negsuc z) h k = omega (arith, ints, mul-le-mul_right (suc z) k)

pub trees_share-le : (a b : ℕ) (z : Option ℤ) (f : Parts → ℤ) (ts : List Parts) → a ≤ length ts → length ts ≤ b → Each (λ t. AtMost z (Some (f t))) ts → trees_share a b z ≤ℤ sum_z f ts
trees_share-le a b None f [] h k e = omega (arith, ints)
trees_share-le a b None f (t ∷ ts) h k e = absurd e.0
trees_share-le a b (Some z) f ts h k e = omega (arith, ints, trees_share_times a b (length ts) z h k, len_times z f ts e)

least_from-le : (f : ℕ → ℤ) (a n k : ℕ) → k ≤ n → least_from f a n ≤ℤ f (a + k)
least_from-le f a zero k h = let e : k ≡ 0 = omega arith in rw e (at_zero f a)
  where
    at_zero : (f : ℕ → ℤ) (a : ℕ) → f a ≤ℤ f (a + 0)
    at_zero f a = let e : a + 0 ≡ a = omega arith in rw e (omega (arith, ints))
least_from-le f a (suc n) k h = next (least_from-le f a n k) (split k n h)
  where
    split : (k n : ℕ) → k ≤ suc n → (k ≡ suc n) ⊎ (k ≤ n)
    split k n h = grind arith

    next : (k ≤ n → least_from f a n ≤ℤ f (a + k)) → (k ≡ suc n) ⊎ (k ≤ n) → int_min (least_from f a n) (f (a + suc n)) ≤ℤ f (a + k)
    next ih (inl e) = rw e (omega (arith, ints, clamps))
    next ih (inr l) = omega (arith, ints, clamps, ih l)

pub cell_share-le : (d most : ℕ) (q : CellPrice) (n : ℕ) → q.cell.floor ≤ n → n ≤ q.cell.ceiling → n ≤ most → cell_share d most q ≤ℤ cell_at d q n
cell_share-le d most q n h k l =
    let e : q.cell.floor + (n - q.cell.floor) ≡ n = omega arith in
    let w = least_from-le (cell_at d q) q.cell.floor (min q.cell.ceiling most - q.cell.floor) (n - q.cell.floor) (omega arith) in
    rw e at w

pub each_cell : (P : Cell → Type 0) (cs : List Cell) (ps : List ℤ) → Each P cs → Each (λ (q : CellPrice). P q.cell) (cell_prices cs ps)
each_cell P [] ps h = tt
each_cell P (c ∷ cs) [] h = (h.0, each_cell P cs [] h.1)
each_cell P (c ∷ cs) (p ∷ ps) h = (h.0, each_cell P cs ps h.1)

sum_cells : (f : Cell → ℤ) (cs : List Cell) (ps : List ℤ) → sum_z (λ (q : CellPrice). f q.cell) (cell_prices cs ps) ≡ sum_z f cs
sum_cells f [] ps = refl
sum_cells f (c ∷ cs) [] = ap (λ (z : ℤ). f c +ℤ z) (sum_cells f cs [])
sum_cells f (c ∷ cs) (p ∷ ps) = ap (λ (z : ℤ). f c +ℤ z) (sum_cells f cs ps)

mult_nonneg : (ms : List Mult) (j : ℕ) → Each (λ (m : Mult). pos 0 ≤ℤ m.value) ms → pos 0 ≤ℤ mult_of ms j
mult_nonneg [] j h = omega (arith, ints)
mult_nonneg (m ∷ ms) j h = pick (nat_eq m.cut j) (mult_nonneg ms j h.1)
  where
    pick : (b : Bool) → pos 0 ≤ℤ mult_of ms j → pos 0 ≤ℤ cond b m.value (mult_of ms j)
    pick true k = h.0
    pick false k = k

share_le : (s : Side) (m : ℤ) (b n : ℕ) → pos 0 ≤ℤ m → KeepsTo s b n → share_of s m b ≤ℤ neg_ℤ (signed s m *ℤ pos n)
share_le Low m b n h k = omega (arith, ints, mul_mono m n b h k)
share_le High m b n h k = omega (arith, ints, mul_mono m (b + 1) n h k, neg-*ℤ m (pos n))

each_cut : (ts : List Parts) (j : ℕ) (cs : List Cut) (ms : List Mult) → Each (Meets ts) cs → Each (λ (m : Mult). pos 0 ≤ℤ m.value) ms
    → Each (λ (k : CutPrice). cut_share k ≤ℤ neg_ℤ (signed k.cut.side k.mult *ℤ pos (arc_count k.cut.arc ts))) (cut_prices j cs ms)
each_cut ts j [] ms h k = tt
each_cut ts j (c ∷ cs) ms h k = (share_le c.side (mult_of ms j) c.b (arc_count c.arc ts) (mult_nonneg ms j k) h.0, each_cut ts (j + 1) cs ms h.1 k)

module _ (g : Grammar) (d : ℕ) (ps : List CellPrice) (ks : List CutPrice) where
  abbrev pub reduced_of : Parts → ℤ
  reduced_of t = tree_value (λ l. neg_ℤ (letter_price ps l)) (arc_price ks) (λ r. pos d *ℤ pos (rule_cost g r)) t

  rules_cost : (t : Parts) → sum_z (λ r. pos d *ℤ pos (rule_cost g r)) (used_rules t) ≡ pos d *ℤ pos (cost g t)
  rules_cost t = sum_z-scale (pos d) (λ r. pos (rule_cost g r)) (used_rules t) ∙ ap (λ (z : ℤ). pos d *ℤ z) (sum_z-pos (rule_cost g) (used_rules t))

  flat : (ts : List Parts) → sum_z reduced_of ts ≡ neg_ℤ (sum_z (letter_price ps) (letters_of ts)) +ℤ sum_z (arc_price ks) (arcs_of ts) +ℤ pos d *ℤ pos (sum_n (cost g) ts)
  flat [] = omega (arith, ints)
  flat (t ∷ ts) =
      let e1 = sum_z-append (letter_price ps) (letters 1 t) (letters_of ts) in
      let e2 = sum_z-append (arc_price ks) (arcs 1 t) (arcs_of ts) in
      let e3 = rules_cost t in
      let e4 = sum_z-neg (letter_price ps) (letters 1 t) in
      let e5 = *ℤ-+ℤ (pos d) (pos (cost g t)) (pos (sum_n (cost g) ts)) in
      omega (arith, ints, flat ts)

  pub reduced_total : (ts : List Parts) → sum_z reduced_of ts
      ≡ neg_ℤ (sum_z (λ (q : CellPrice). q.price *ℤ pos (tree_cover ts q.cell)) ps) +ℤ sum_z (λ (k : CutPrice). signed k.cut.side k.mult *ℤ pos (arc_count k.cut.arc ts)) ks
      +ℤ pos d *ℤ pos (sum_n (cost g) ts)
  reduced_total ts =
      let e1 = exchange CellPrice (λ q l. is_at q.cell l) (λ q. q.price) ps (letters_of ts) in
      let e2 = exchange CutPrice (λ k a. same_arc k.cut.arc a) (λ k. signed k.cut.side k.mult) ks (arcs_of ts) in
      omega (arith, ints, flat ts)

  each_reduced : (z : Option ℤ) (ts : List Parts) → IsLeast (IsDayTree g) (tree_sum (view_of g d ps ks) 1) z → Each (IsDayTree g) ts → Each (λ t. AtMost z (Some (reduced_of t))) ts
  each_reduced z [] least h = tt
  each_reduced z (t ∷ ts) least h = (
    subst (λ (o : Option ℤ). AtMost z o) (tree_sum-value (λ l. neg_ℤ (letter_price ps l)) (arc_price ks) (λ r. pos d *ℤ pos (rule_cost g r)) g t h.0) (least.least t h.0),
    each_reduced z ts least h.1,
  )

-- the value is at most d times the cost
pub lagrangian_sum-le : (i : Instance) (p : Prices) (cuts : List Cut) (z : Option ℤ) (ts : List Parts)
    → IsLeastReduced i p cuts z → IsTreeRoster i ts → Each (Meets ts) cuts → Each (λ (m : Mult). pos 0 ≤ℤ m.value) p.mult
    → lagrangian_sum i p cuts z ≤ℤ (pos p.d *ℤ pos (trees_cost i ts))
lagrangian_sum-le i p cuts z ts least roster meets nonneg =
    let ps = cell_prices i.cells p.cell in
    let ks = cut_prices 1 cuts p.mult in
    let heads = trees_share-le i.heads_min i.heads_max z (reduced_of i.grammar p.d ps ks) ts roster.enough roster.few (each_reduced i.grammar p.d ps ks z ts least.least roster.day) in
    let total = reduced_total i.grammar p.d ps ks ts in
    let cells = sum_z-le (cell_share p.d i.heads_max) (λ (q : CellPrice). cell_at p.d q (tree_cover ts q.cell)) ps
    (Each-weaker (λ (q : CellPrice). IsCovered i ts q.cell) _ ps (λ q h. cell_share-le p.d i.heads_max q (tree_cover ts q.cell) h.range.floor h.range.ceiling h.heads) (each_cell (IsCovered i ts) i.cells p.cell roster.coverage)) in
    let apart = sum_z-add (λ (q : CellPrice). pos p.d *ℤ pos (penalty q.cell (tree_cover ts q.cell))) (λ (q : CellPrice). q.price *ℤ pos (tree_cover ts q.cell)) ps in
    let pens = sum_cells (λ c. pos p.d *ℤ pos (penalty c (tree_cover ts c))) i.cells p.cell
    ∙ sum_z-scale (pos p.d) (λ c. pos (penalty c (tree_cover ts c))) i.cells
    ∙ ap (λ (z : ℤ). pos p.d *ℤ z) (sum_z-pos (λ c. penalty c (tree_cover ts c)) i.cells) in
    let shares = sum_z-le cut_share (λ (k : CutPrice). neg_ℤ (signed k.cut.side k.mult *ℤ pos (arc_count k.cut.arc ts))) ks (each_cut ts 1 cuts p.mult meets nonneg) in
    let negs = sum_z-neg (λ (k : CutPrice). signed k.cut.side k.mult *ℤ pos (arc_count k.cut.arc ts)) ks in
    let both = *ℤ-+ℤ (pos p.d) (pos (sum_n (cost i.grammar) ts)) (pos (sum_n (λ c. penalty c (tree_cover ts c)) i.cells)) in
    omega (arith, ints)
