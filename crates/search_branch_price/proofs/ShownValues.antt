-- The prices of a solved node, and the counts of a pinned one.
use Rattle.std.proofs.Common.{ℕ, pos, arith, ◌≤◌, ◌<◌, ◌+◌, ◌≤ℤ◌, ◌<ℤ◌, All, List, [], ◌∷◌, length}
use Rattle.std.proofs.lemmas.Int.{ints}
use Rattle.model_rosters.specs.declared.instance.Cut.{Cut}
use Rattle.model_rosters.specs.declared.instance.Instance.{Instance}
use Rattle.model_rosters.specs.declared.instance.Mult.{Mult}
use Rattle.model_rosters.specs.Folds.{Each}
use Rattle.model_rosters.specs.declared.instance.Prices.{Prices}
use Rattle.model_rosters.specs.PriceLimits.{FitPrices, IsMult, AreRising}
use Rattle.law_bounds.specs.Priced.{IsPricedValue}
use Rattle.model_rosters.specs.Limits.{IsSmallCut}
use Rattle.law_bounds.proofs.master_laws.RowSizes.{row_count}
use Rattle.model_rosters.proofs.EachLemmas.{all_each, each_all, Each-weaker}
use Rattle.law_bounds.specs.master_laws.Rows.{rows_of}
use Rattle.check_certificates.specs.Sound.{ListNoZero}
use Rattle.search_masters.specs.Ends.{IsNodeCut, AreLawful}
use Rattle.tree_pool.specs.Pools.{PoolTree}
use Rattle.check_certificates.specs.growing_laws.States.{IsPricedNode}
use Rattle.search_primal.specs.declared.solved.Solved.{Solved}
use Rattle.search_primal.specs.Solutions.{IsSolved, IsShown}
use Rattle.search_branch_price.specs.Roots.{AreShown}
use Rattle.search_branch_price.proofs.Leaves.{AreLeafCuts}

pub small-cuts : (i : Instance) (cuts : List Cut) → AreLeafCuts i cuts → All (λ (c : Cut). c.b ≤ 63) cuts
small-cuts i cuts are = each_all (λ (c : Cut). c.b ≤ 63) cuts (Each-weaker (IsNodeCut i) (λ (c : Cut). c.b ≤ 63) cuts (λ c h. h.few) are.node)

pub few-cuts : (i : Instance) (cuts : List Cut) → AreLeafCuts i cuts → Each IsSmallCut cuts
few-cuts i cuts are = Each-weaker (IsNodeCut i) IsSmallCut cuts (λ c h. h.few) are.node

pub is-shown : (i : Instance) (cuts : List Cut) (pool : List PoolTree) (solved : Solved) (value : ℕ) → AreLeafCuts i cuts
    → IsSolved i cuts pool solved → IsPricedValue i solved.prices cuts value → IsShown i cuts pool solved value
is-shown i cuts pool solved value are is shows = record { solved = is; value = shows; below = are.below; based = are.based }

-- multipliers by rising numbers of cuts are no more than the cuts
rising-few : (top : ℕ) (ms : List Mult) (n : ℕ) → n ≤ top → Each (λ (m : Mult). n < m.cut) ms → Each (IsMult top) ms → AreRising ms
    → length ms + n ≤ top
rising-few top [] n le above within rising = omega (arith, le)
rising-few top (m ∷ ms) n le above within rising =
    let k = rising-few top ms m.cut within.0.last rising.0 within.1 rising.1 in
    let lt = above.0 in
    omega (arith, k, lt)

all-some : (top : ℕ) (ms : List Mult) → Each (IsMult top) ms → Each (λ (m : Mult). 0 < m.cut) ms
all-some top ms h = Each-weaker (IsMult top) (λ (m : Mult). 0 < m.cut) ms (λ m k. let f = k.first in omega (arith, f)) h

-- prices of a node with few rows are few enough for a written certificate
few-listed : (i : Instance) (cuts : List Cut) (p : Prices) → length (rows_of i cuts) ≤ 1500 → FitPrices i p.d p.cell p.mult cuts → length p.cell + length p.mult ≤ 1498
few-listed i cuts p few fit =
    let rows = row_count i cuts in
    let cells = fit.cells in
    let each = all_each (IsMult (length cuts)) p.mult fit.mults in
    let mults = rising-few (length cuts) p.mult 0 (omega arith) (all-some (length cuts) p.mult each) each fit.rising in
    omega (arith, rows, few, cells, mults)

none-zero : (p : Prices) → Each (λ (m : Mult). pos 0 <ℤ m.value) p.mult → ListNoZero p
none-zero p h = Each-weaker (λ (m : Mult). pos 0 <ℤ m.value) (λ (m : Mult). pos 1 ≤ℤ m.value) p.mult (λ m h. omega (arith, ints, h)) h

-- lawful prices, with what they show
pub lawful-shown : (i : Instance) (cuts : List Cut) (p : Prices) (value limit : ℕ) → AreLawful i cuts p → IsPricedValue i p cuts value → value < limit
    → AreShown i cuts limit (record { prices = p; value = value })
lawful-shown i cuts p value limit is shows below = record {
  fit = is.fit.fit;
  listed = none-zero p is.fit.positive;
  few = few-listed i cuts p is.few is.fit.fit;
  value = shows;
  below = below;
}

-- the prices of a solved node, with what they show
pub priced-node : (i : Instance) (cuts : List Cut) (pool : List PoolTree) (solved : Solved) (value : ℕ) → AreLeafCuts i cuts
    → IsSolved i cuts pool solved → IsPricedValue i solved.prices cuts value → IsPricedNode i cuts (record { prices = solved.prices; value = value })
priced-node i cuts pool solved value are is shows = record {
  fit = is.fit;
  listed = none-zero solved.prices is.positive;
  few = few-listed i cuts solved.prices is.few is.fit;
  value = shows;
  best = is.best are.below;
}
