-- How many rows a master has, and how large its numbers are.
use Rattle.std.proofs.Common.{◌≡◌, ℕ, zero, suc, arith, pos, ◌≤ℤ◌, ◌+◌, ◌*◌, ◌^◌, ◌≤◌, max, Bool, true, false, cond, List, [], ◌∷◌, ◌++◌, length, refl, All, length-append}
use Rattle.std.specs.Prelude.{nat_eq}
use Rattle.std.proofs.lemmas.Int.{ints}
use Rattle.std.proofs.lemmas.Nat.{mul-le}
use Rattle.std.proofs.Math.Nat.{max-le}
use Rattle.std.proofs.lemmas.List.Elements.{All-head, All-tail}
use Rattle.model_rosters.specs.declared.instance.Cell.{Cell}
use Rattle.model_rosters.specs.declared.instance.Cut.{Cut}
use Rattle.model_rosters.specs.declared.instance.Instance.{Instance}
use Rattle.model_rosters.specs.declared.instance.Side.{Side}
use Rattle.model_rosters.specs.declared.instance.Side.TheVariants.{Low, High}
use Rattle.model_rosters.specs.declared.grammar.ArcKey.{ArcKey}
use Rattle.model_rosters.specs.Trees.{Parts, IsDayTree}
use Rattle.model_rosters.specs.Sums.{Within}
use Rattle.model_rosters.specs.Folds.{sum_n, Each}
use Rattle.model_rosters.specs.Arcs.{cost}
use Rattle.model_rosters.specs.Limits.{IsLimitedCell}
use Rattle.model_rosters.specs.GreatestCost.{greatest_rule_cost, greatest_penalty, greatest_cost}
use Rattle.model_rosters.specs.Room.{most_uses}
use Rattle.model_rosters.specs.SoundInstance.{IsSoundInstance}
use Rattle.model_rosters.proofs.SoundCells.{cells_limited}
use Rattle.model_rosters.proofs.CostBounds.{rule_cost-le, uses-le, shifts-le, cells-le}
use Rattle.model_rosters.proofs.EachLemmas.{Each-weaker, Each-append}
use Rattle.model_rosters.proofs.arc_laws.Totals.{arc_once}
use Rattle.law_bounds.specs.linear_programs.Program.{unit_vector}
use Rattle.law_bounds.specs.BestPrices.{artificial_cost}
use Rattle.law_bounds.proofs.TreeCosts.{cost-le}
use Rattle.law_bounds.specs.master_laws.Rows.{Row, cell_row, floor_row, ceiling_row, least_row, most_row, side_row, has_floor, has_ceiling, cell_rows, floor_rows, ceiling_rows, cut_rows, rows_of, number_at}
use Rattle.law_bounds.specs.master_laws.Master.{MasterKey, missing, beyond, tree, missing_cost, beyond_cost, master}
use Rattle.law_bounds.specs.master_laws.Laws.{AreSmall}
use Rattle.law_bounds.proofs.master_laws.Once.{cell_once}

pub length-cell_rows : (cs : List Cell) → length (cell_rows cs) ≡ length cs
length-cell_rows [] = refl
length-cell_rows (c ∷ cs) = omega (arith, length-cell_rows cs)

length-cut_rows : (cs : List Cut) → length (cut_rows cs) ≡ length cs
length-cut_rows [] = refl
length-cut_rows (c ∷ cs) = omega (arith, length-cut_rows cs)

pub row_count : (i : Instance) (cuts : List Cut) → length (rows_of i cuts) ≡ length i.cells + length (floor_rows i.cells) + length (ceiling_rows i.cells) + 2 + length cuts
row_count i cuts =
    let tail = least_row i.heads_min ∷ most_row i.heads_max ∷ cut_rows cuts in
    omega (arith, length-append (cell_rows i.cells) (floor_rows i.cells ++ (ceiling_rows i.cells ++ tail)), length-append (floor_rows i.cells) (ceiling_rows i.cells ++ tail), length-append (ceiling_rows i.cells) tail, length-cell_rows i.cells, length-cut_rows cuts)

-- ---- limits of one row
pub record IsSmallRow (i : Instance) (x : Row) : Type 0 where
  pub right : x.right ≤ 64
  pub brings : (t : Parts) → IsDayTree i.grammar t → x.brings t ≤ 1
  pub missing : missing_cost (artificial_cost i) x.sense ≤ 2 ^ 39
  pub beyond : beyond_cost x.sense ≤ 2 ^ 39

each_limited : (cs : List Cell) → All IsLimitedCell cs → Each IsLimitedCell cs
each_limited [] h = tt
each_limited (c ∷ cs) h = (All-head IsLimitedCell c cs h, each_limited cs (All-tail IsLimitedCell c cs h))

one_row : (P : Row → Type 0) (b : Bool) (x : Row) → P x → Each P (cond b (x ∷ []) [])
one_row P true x h = (h, tt)
one_row P false x h = tt

module _ (i : Instance) (sound : IsSoundInstance i) where
  penalties-le : (cs : List Cell) → Each IsLimitedCell cs → sum_n (greatest_penalty i.heads_max) cs ≤ 640000 * length cs
  penalties-le [] h = omega arith
  penalties-le (c ∷ cs) h =
      let a = mul-le c.under c.need 10000 64 h.0.under h.0.need in
      let b = mul-le c.over i.heads_max 10000 64 h.0.over sound.few in
      let m : max (c.under * c.need) (c.over * i.heads_max) ≤ 640000 = max-le (omega arith) (omega arith) in
      omega (arith, m, penalties-le cs h.1)

  limited : Each IsLimitedCell i.cells
  limited = each_limited i.cells (cells_limited i.grammar i.cells sound.cells)

  greatest-le : greatest_cost i ≤ 4525440000
  greatest-le = omega (arith, shifts-le i sound, penalties-le i.cells limited, cells-le i sound)

  artificial-le : artificial_cost i ≤ 2 ^ 39
  artificial-le = omega (arith, greatest-le)

  tree_cost-le : (t : Parts) → IsDayTree i.grammar t → cost i.grammar t ≤ 2 ^ 39
  tree_cost-le t d =
      let a = cost-le i sound.grammar.ranks.0 sound.grammar.ranks.1 t i.grammar.start d.0 d.1 in
      let b = mul-le (most_uses i.grammar) (greatest_rule_cost i.grammar.rules) 6303 10000 (uses-le i.grammar sound.grammar) (rule_cost-le _ _ i.grammar.rules sound.grammar.rules) in
      omega (arith, a, b)

  small_cell : (c : Cell) → IsLimitedCell c → IsSmallRow i (cell_row c)
  small_cell c h = record { right = h.need; brings = λ t d. cell_once i.grammar c t d; missing = omega (arith, h.under); beyond = omega (arith, h.over) }

  small_floor : (c : Cell) → IsLimitedCell c → IsSmallRow i (floor_row c)
  small_floor c h = record { right = h.floor; brings = λ t d. cell_once i.grammar c t d; missing = artificial-le; beyond = omega arith }

  small_ceiling : (c : Cell) → IsLimitedCell c → IsSmallRow i (ceiling_row c)
  small_ceiling c h = record { right = h.ceiling; brings = λ t d. cell_once i.grammar c t d; missing = omega arith; beyond = omega arith }

  small_side : (s : Side) (b : ℕ) (a : ArcKey) → b ≤ 63 → IsSmallRow i (side_row s b a)
  small_side Low b a h = record { right = omega arith; brings = λ t d. arc_once i.grammar sound.grammar t a d; missing = omega arith; beyond = omega arith }
  small_side High b a h = record { right = omega arith; brings = λ t d. arc_once i.grammar sound.grammar t a d; missing = artificial-le; beyond = omega arith }

  smalls : (cs : List Cell) → Each IsLimitedCell cs → Each (IsSmallRow i) (cell_rows cs) × Each (IsSmallRow i) (floor_rows cs) × Each (IsSmallRow i) (ceiling_rows cs)
  smalls [] h = (tt, tt, tt)
  smalls (c ∷ cs) h =
      let more = smalls cs h.1 in (
        (small_cell c h.0, more.0),
        Each-append (IsSmallRow i) _ (floor_rows cs) (one_row (IsSmallRow i) (has_floor c) (floor_row c) (small_floor c h.0)) more.1,
        Each-append (IsSmallRow i) _ (ceiling_rows cs) (one_row (IsSmallRow i) (has_ceiling c) (ceiling_row c) (small_ceiling c h.0)) more.2,
      )

  small_cuts : (cs : List Cut) → Each (λ (c : Cut). c.b ≤ 63) cs → Each (IsSmallRow i) (cut_rows cs)
  small_cuts [] h = tt
  small_cuts (c ∷ cs) h = (small_side c.side c.b c.arc h.0, small_cuts cs h.1)

  small_rows : (cuts : List Cut) → Each (λ (c : Cut). c.b ≤ 63) cuts → Each (IsSmallRow i) (rows_of i cuts)
  small_rows cuts h =
      let a = smalls i.cells limited in
      let least : IsSmallRow i (least_row i.heads_min) = record { right = omega (arith, sound.order, sound.few); brings = λ t d. omega arith; missing = artificial-le; beyond = omega arith } in
      let most : IsSmallRow i (most_row i.heads_max) = record { right = sound.few; brings = λ t d. omega arith; missing = omega arith; beyond = omega arith } in
      Each-append (IsSmallRow i) (cell_rows i.cells) _ a.0 (Each-append (IsSmallRow i) (floor_rows i.cells) _ a.1 (Each-append (IsSmallRow i) (ceiling_rows i.cells) _ a.2 (least, (most, small_cuts cuts h))))

  -- ---- numbers at a row
  number_small : (n : ℕ) (f : Row → ℕ) (rows : List Row) → Each (λ (x : Row). f x ≤ n) rows → (r : ℕ) → (pos 0 ≤ℤ number_at (λ (x : Row). pos (f x)) rows r) × (number_at (λ (x : Row). pos (f x)) rows r ≤ℤ pos n)
  number_small n f [] h r = (omega (arith, ints), omega (arith, ints))
  number_small n f (x ∷ rows) h zero = let a = h.0 in (omega (arith, ints), omega (arith, ints))
  number_small n f (x ∷ rows) h (suc r) = number_small n f rows h.1 r

  unit_small : (r j : ℕ) → Within 1 (unit_vector r j)
  unit_small r j = by (nat_eq r j)
    where
      by : (b : Bool) → Within 1 (cond b (pos 1) (pos 0))
      by true = record { low = omega (arith, ints); high = omega (arith, ints) }
      by false = record { low = omega (arith, ints); high = omega (arith, ints) }

  pub small : (cuts : List Cut) → Each (λ (c : Cut). c.b ≤ 63) cuts → AreSmall i cuts
  small cuts below =
      let rows = rows_of i cuts in
      let each = small_rows cuts below in
      record {
        right = λ r. number_small 64 (λ (x : Row). x.right) rows (Each-weaker (IsSmallRow i) _ rows (λ x h. h.right) each) r;
        entry = entries each;
        cost = costs each;
      }
    where
      entries : Each (IsSmallRow i) (rows_of i cuts) → (k : MasterKey) (r : ℕ) → (master i cuts).belongs k → Within 1 (((master i cuts).column k).entry r)
      entries each (missing s) r b = unit_small s r
      entries each (beyond s) r b = let u = unit_small s r in record { low = omega (arith, ints, u.high); high = omega (arith, ints, u.low) }
      entries each (tree t) r b =
          let u = number_small 1 (λ (x : Row). x.brings t) (rows_of i cuts) (Each-weaker (IsSmallRow i) _ (rows_of i cuts) (λ x h. h.brings t b) each) r in
          record { low = omega (arith, ints, u.0); high = u.1 }

      costs : Each (IsSmallRow i) (rows_of i cuts) → (k : MasterKey) → (master i cuts).belongs k → (pos 0 ≤ℤ ((master i cuts).column k).cost) × (((master i cuts).column k).cost ≤ℤ pos (2 ^ 39))
      costs each (missing s) b = number_small (2 ^ 39) (λ (x : Row). missing_cost (artificial_cost i) x.sense) (rows_of i cuts) (Each-weaker (IsSmallRow i) _ (rows_of i cuts) (λ x h. h.missing) each) s
      costs each (beyond s) b = number_small (2 ^ 39) (λ (x : Row). beyond_cost x.sense) (rows_of i cuts) (Each-weaker (IsSmallRow i) _ (rows_of i cuts) (λ x h. h.beyond) each) s
      costs each (tree t) b = let a = tree_cost-le t b in (omega (arith, ints), omega (arith, ints))
