-- No rival's value is above the master's: its prices give prices of the rows that show as much.
use Rattle.std.proofs.Common.{◌≡◌, ℕ, ℤ, arith, pos, neg_ℤ, ◌+ℤ◌, ◌*ℤ◌, ◌≤ℤ◌, ◌+◌, ◌*◌, ◌<◌, Bool, true, false, cond, Option, None, Some, IfSome, List, [], ◌∷◌, length, refl, ap, ◌∙◌, subst, ◌⊎◌, inl, inr}
use Rattle.std.specs.Prelude.{nat_eq}
use Rattle.std.proofs.lemmas.Int.{ints}
use lib.IntN.{*ℤ_comm}
use Rattle.model_rosters.specs.declared.grammar.ArcKey.{ArcKey}
use Rattle.model_rosters.specs.declared.instance.Cut.{Cut}
use Rattle.model_rosters.specs.declared.instance.Mult.{Mult}
use Rattle.model_rosters.specs.declared.instance.Instance.{Instance}
use Rattle.model_rosters.specs.declared.instance.Prices.{Prices}
use Rattle.model_rosters.specs.declared.instance.Side.{Side}
use Rattle.model_rosters.specs.declared.instance.Side.TheVariants.{Low, High}
use Rattle.model_rosters.specs.Trees.{Parts, IsDayTree}
use Rattle.model_rosters.specs.Folds.{sum_z, Each}
use Rattle.model_rosters.specs.Arcs.{cost}
use Rattle.model_rosters.specs.GreatestCost.{greatest_cost}
use Rattle.model_rosters.specs.Reduced.{CutPrice, cell_prices, cut_prices, mult_of, signed}
use Rattle.model_rosters.specs.SoundInstance.{IsSoundInstance}
use Rattle.law_bounds.specs.linear_programs.Sums.{dot}
use Rattle.law_bounds.specs.linear_programs.Program.{IsPricedOut}
use Rattle.law_bounds.specs.linear_programs.Solution.{IsValue, cost_of}
use Rattle.law_bounds.proofs.linear_programs.Duality.{weak_duality}
use Rattle.law_bounds.proofs.linear_programs.Ring.{*ℤ-assoc}
use Rattle.law_bounds.specs.Infeasible.{IsPlainlyInfeasible}
use Rattle.law_bounds.specs.Lagrangian.{share_of, cut_share, lagrangian_sum, IsLeastReduced, IsLagrangian}
use Rattle.law_bounds.specs.BestPrices.{artificial_cost, IsRival, IsRivalMult}
use Rattle.law_bounds.proofs.linear_programs.Orders.{le_factor, scale_le, times_le, times_swap}
use Rattle.law_bounds.specs.master_laws.Rows.{Row, rows_of, side_row, cell_count, tree_arcs, number_at}
use Rattle.law_bounds.specs.master_laws.Master.{program_of, master}
use Rattle.law_bounds.proofs.master_laws.RowSums.{RowPrice, rows_in, price_at, worth, IsGood, listed_dot, priced_out}
use Rattle.law_bounds.proofs.master_laws.Lines.{at, built, built_rows, built_sum, cut_numbers, AreMany, to_built}
use Rattle.law_bounds.proofs.master_laws.Numbers.{neg_times}
use Rattle.law_bounds.proofs.master_laws.OneTree.{one_total, red, least_red, no_tree, cells_have}
use Rattle.law_bounds.proofs.master_laws.Once.{cell_once}
use Rattle.law_bounds.proofs.master_laws.RoundedValue.{lines_count}
use Rattle.law_bounds.proofs.master_laws.Duals.{Duals, duals, HeadDual, head_dual}

-- ---- the prices of cuts' rows
abbrev numbers : List Mult → ℕ → List Cut → List ℤ
numbers ms j [] = []
numbers ms j (c ∷ cs) = neg_ℤ (signed c.side (mult_of ms j)) ∷ numbers ms (j + 1) cs

many : (ms : List Mult) (j : ℕ) (cs : List Cut) → AreMany cs (numbers ms j cs)
many ms j [] = tt
many ms j (c ∷ cs) = many ms (j + 1) cs

mult_within : (most : ℕ) (ms : List Mult) (j : ℕ) → Each (IsRivalMult most) ms → IsRivalMult most (record { cut = j; value = mult_of ms j })
mult_within most [] j h = record { low = omega (arith, ints); high = omega (arith, ints) }
mult_within most (m ∷ ms) j h = pick (nat_eq m.cut j) (mult_within most ms j h.1)
  where
    pick : (b : Bool) → IsRivalMult most (record { cut = j; value = mult_of ms j }) → IsRivalMult most (record { cut = j; value = cond b m.value (mult_of ms j) })
    pick true r = record { low = h.0.low; high = h.0.high }
    pick false r = r

good_cut : (k d : ℕ) (s : Side) (b : ℕ) (a : ArcKey) (m : ℤ) → pos 0 ≤ℤ m → m ≤ℤ (pos d *ℤ pos k) → IsGood k (pos d) (at (side_row s b a) (neg_ℤ (signed s m)))
good_cut k d Low b a m h l = omega (arith, ints)
good_cut k d High b a m h l = (omega (arith, ints), omega (arith, ints))

good_cuts : (k d : ℕ) (ms : List Mult) (j : ℕ) (cs : List Cut) → Each (IsRivalMult (k * d)) ms → Each (IsGood k (pos d)) (cut_numbers cs (numbers ms j cs))
good_cuts k d ms j [] h = tt
good_cuts k d ms j (c ∷ cs) h =
    let w = mult_within (k * d) ms j h in
    (good_cut k d c.side c.b c.arc (mult_of ms j) w.low (omega (arith, ints, w.high)), good_cuts k d ms (j + 1) cs h)

share_is : (s : Side) (b : ℕ) (a : ArcKey) (m : ℤ) → worth (λ (r : Row). pos r.right) (at (side_row s b a) (neg_ℤ (signed s m))) ≡ share_of s m b
share_is Low b a m = neg_times m b
share_is High b a m = let e : neg_ℤ (neg_ℤ m) ≡ m = omega (arith, ints) in rw e refl

shares_are : (ms : List Mult) (j : ℕ) (cs : List Cut) → sum_z (worth (λ (r : Row). pos r.right)) (cut_numbers cs (numbers ms j cs)) ≡ sum_z cut_share (cut_prices j cs ms)
shares_are ms j [] = refl
shares_are ms j (c ∷ cs) = let a = share_is c.side c.b c.arc (mult_of ms j) in let r = shares_are ms (j + 1) cs in omega (arith, ints)

module _ (t : Parts) where
  pay_is : (s : Side) (b : ℕ) (a : ArcKey) (m : ℤ) → worth (λ (r : Row). pos (r.brings t)) (at (side_row s b a) (neg_ℤ (signed s m))) ≡ neg_ℤ (signed s m *ℤ pos (tree_arcs a t))
  pay_is Low b a m = neg_times m (tree_arcs a t)
  pay_is High b a m = neg_times (neg_ℤ m) (tree_arcs a t)

  pays_are : (ms : List Mult) (j : ℕ) (cs : List Cut) → sum_z (worth (λ (r : Row). pos (r.brings t))) (cut_numbers cs (numbers ms j cs)) ≡ neg_ℤ (sum_z (λ (k : CutPrice). signed k.cut.side k.mult *ℤ pos (tree_arcs k.cut.arc t)) (cut_prices j cs ms))
  pays_are ms j [] = refl
  pays_are ms j (c ∷ cs) = let a = pay_is c.side c.b c.arc (mult_of ms j) in let r = pays_are ms (j + 1) cs in omega (arith, ints)

module _ (i : Instance) (p : Prices) (cuts : List Cut) (z : Option ℤ) (sound : IsSoundInstance i) (busy : IsPlainlyInfeasible i → ⊥) (rival : IsRival i p cuts) (least : IsLeastReduced i p cuts z) where
  abbrev k : ℕ
  k = artificial_cost i

  ds : Duals k p.d i.heads_max i.cells p.cell
  ds = duals k p.d i.heads_max sound.few i.cells p.cell (cells_have i busy) rival.floors

  within : (z : Option ℤ) → IsLeastReduced i p cuts z → IfSome z (λ v. v ≤ℤ (pos p.d *ℤ pos k))
  within None l = tt
  within (Some v) l = let a = rival.least v l in omega (arith, ints)

  hs : HeadDual k p.d i.heads_min i.heads_max ds.excess z
  hs = head_dual k p.d i.heads_min i.heads_max ds.excess z sound.order ds.some (within z least)

  abbrev xs : List ℤ
  xs = numbers p.mult 1 cuts

  pub rows : List RowPrice
  rows = built i ds.lines hs.least hs.most cuts xs

  rows_are : rows_in rows ≡ rows_of i cuts
  unfolding rows
  rows_are = built_rows i ds.lines hs.least hs.most cuts xs ds.cells_are (many p.mult 1 cuts)

  good : Each (IsGood k (pos p.d)) rows
  unfolding rows
  good = to_built (IsGood k (pos p.d)) i ds.lines hs.least hs.most cuts xs (record { lines = ds.good; least = (hs.some, hs.few); most = hs.none; numbered = good_cuts k p.d p.mult 1 cuts rival.mults })

  tree_paid : (t : Parts) → IsDayTree i.grammar t → sum_z (worth (λ (r : Row). pos (r.brings t))) rows ≤ℤ (pos p.d *ℤ pos (cost i.grammar t))
  unfolding rows
  tree_paid t h =
      let s = built_sum (worth (λ (r : Row). pos (r.brings t))) i ds.lines hs.least hs.most cuts xs in
      let a = lines_count (λ c. cell_count c t) t (λ c. refl) ds.lines ds.clean in
      let b = ds.paid (λ c. cell_count c t) (λ c. cell_once i.grammar c t h) in
      let c = pays_are t p.mult 1 cuts in
      let r = one_total i.grammar p.d (cell_prices i.cells p.cell) (cut_prices 1 cuts p.mult) t in
      let w = heads_paid z least hs.paid in
      omega (arith, ints)
    where
      heads_paid : (z : Option ℤ) → IsLeastReduced i p cuts z → IfSome z (λ v. (hs.least +ℤ hs.most +ℤ ds.excess) ≤ℤ v) → (hs.least +ℤ hs.most +ℤ ds.excess) ≤ℤ red i p cuts t
      heads_paid None l q = absurd (no_tree i p cuts t l h)
      heads_paid (Some v) l q = let m = least_red i p cuts v t l h in omega (arith, ints)

  shown : lagrangian_sum i p cuts z ≤ℤ dot (length (rows_in rows)) (price_at rows) (number_at (λ (r : Row). pos r.right) (rows_in rows))
  unfolding rows
  shown =
      let e = listed_dot (λ (r : Row). pos r.right) (built i ds.lines hs.least hs.most cuts xs) in
      let s = built_sum (worth (λ (r : Row). pos r.right)) i ds.lines hs.least hs.most cuts xs in
      let c = shares_are p.mult 1 cuts in
      let a = ds.share in
      let b = hs.share in
      omega (arith, ints)

  pub out : IsPricedOut (master i cuts) (price_at rows) (pos p.d)
  out = subst (λ (xs : List Row). IsPricedOut (program_of i xs) (price_at rows) (pos p.d)) rows_are (priced_out i (pos p.d) rows good tree_paid)

  pub value_shown : lagrangian_sum i p cuts z ≤ℤ dot (master i cuts).rows (price_at rows) (master i cuts).right
  value_shown = subst (λ (xs : List Row). lagrangian_sum i p cuts z ≤ℤ dot (length xs) (price_at rows) (number_at (λ (r : Row). pos r.right) xs)) rows_are shown

  pub shows_less : (v : ℤ) (q : ℕ) → IsValue (master i cuts) v q → (lagrangian_sum i p cuts z *ℤ pos q) ≤ℤ (v *ℤ pos p.d)
  shows_less v q value =
      let x = value.reached in
      let w = weak_duality (master i cuts) (price_at rows) (pos p.d) out x.0 x.1 x.2 in
      finish (lagrangian_sum i p cuts z) (dot (master i cuts).rows (price_at rows) (master i cuts).right) (cost_of (master i cuts).column x.0) x.1 x.2.positive value_shown w x.3
    where
      finish : (L V C : ℤ) (n : ℕ) → 0 < n → L ≤ℤ V → (pos n *ℤ V) ≤ℤ (pos p.d *ℤ C) → C *ℤ pos q ≡ v *ℤ pos n → (L *ℤ pos q) ≤ℤ (v *ℤ pos p.d)
      finish L V C n some a b c =
          let t1 = scale_le (pos n) L V (omega (arith, ints)) a in
          let t2 = times_le (pos n *ℤ L) (pos p.d *ℤ C) q (omega (arith, ints)) in
          let t3 = *ℤ-assoc (pos n) L (pos q) in
          let t4 : (pos p.d *ℤ C) *ℤ pos q ≡ pos n *ℤ (v *ℤ pos p.d) =
          *ℤ-assoc (pos p.d) C (pos q) ∙ ap (λ (z : ℤ). pos p.d *ℤ z) c ∙ *ℤ_comm (pos p.d) (v *ℤ pos n) ∙ times_swap v n p.d ∙ *ℤ_comm (v *ℤ pos p.d) (pos n) in
          le_factor (pos n) (L *ℤ pos q) (v *ℤ pos p.d) (omega (arith, ints)) (omega (arith, ints))

pub rivals_less : (i : Instance) (cuts : List Cut) (rival : Prices) (w v : ℤ) (q : ℕ) → IsSoundInstance i → (IsPlainlyInfeasible i → ⊥)
    → IsRival i rival cuts → IsLagrangian i rival cuts w → IsValue (master i cuts) v q → (w *ℤ pos q) ≤ℤ (v *ℤ pos rival.d)
rivals_less i cuts p w v q sound busy rival lag value = by lag.value
  where
    by : (IsPlainlyInfeasible i × (w ≡ pos p.d *ℤ pos (greatest_cost i + 1))) ⊎ ((IsPlainlyInfeasible i → ⊥) × (w ≡ lagrangian_sum i p cuts lag.z)) → (w *ℤ pos q) ≤ℤ (v *ℤ pos p.d)
    by (inl b) = absurd (busy b.0)
    by (inr b) = rw b.1 (shows_less i p cuts lag.z sound busy rival lag.least v q value)
