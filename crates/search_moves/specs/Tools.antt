-- What the moves of a roster work on: what prices trees, the trees that were tried, and a draft of them.
use Rattle.std.specs.Prelude.{ℕ, ℤ, ◌≡◌, ◌<◌, All, IfSome, Option, List, length}
use Rattle.model_rosters.specs.declared.instance.Instance.{Instance}
use Rattle.model_rosters.specs.Sums.{PriceView, IsLeast, tree_sum}
use Rattle.model_rosters.specs.Trees.{IsDayTree}
use Rattle.tree_cheapest.specs.Pricers.{PricerView}
use Rattle.tree_pool.specs.Pools.{PoolTree, IsPool}
use Rattle.lp_master_rows.specs.declared.search_day.day.Day.{Day}
use Rattle.lp_master_rows.specs.search_day.Days.{IsDay}
use Rattle.lp_master_rows.specs.search_day.Rooms.{Grows}
use Rattle.search_candidates.specs.Priced.{IsPriced}
use Rattle.search_moves.specs.declared.draft.Draft.{Draft}
use Rattle.search_moves.specs.declared.short_pricing.ShortPricing.{ShortPricing}
use Rattle.search_moves.specs.Drafts.{IsDraft}
use Rattle.search_moves.specs.ShortPricings.{AreShortPricing}

-- the day is sound, they fit it, and the draft is one of trees that were tried
pub record AreTools (d : Day) (p : ShortPricing) (trees : List PoolTree) (w : Draft) : Type 0 where
  pub day : IsDay d
  pub pricing : AreShortPricing d p
  pub tried : IsPool d.instance.now.grammar trees
  pub draft : IsDraft d.instance.now (length trees) w

-- what prices trees still fits the day, and further trees were tried
pub record StayTools (d : Day) (p q : ShortPricing) (old new : List PoolTree) : Type 0 where
  pub pricing : AreShortPricing d q
  pub tried : Grows d old new

-- the day is sound, both pools have trees of it, and these are numbers of trees of the first pool
pub record MayCopy (d : Day) (old : List PoolTree) (cs : List ℕ) (new : List PoolTree) : Type 0 where
  pub day : IsDay d
  pub from : IsPool d.instance.now.grammar old
  pub columns : All (λ c. c < length old) cs
  pub to : IsPool d.instance.now.grammar new

-- these are numbers of trees of a pool
abbrev pub AreColumns : List PoolTree → List ℕ → Type 0
AreColumns trees columns = All (λ (c : ℕ). c < length trees) columns

-- where a number was found it is one of a tree of the pool
abbrev pub IsFoundIn : List PoolTree → Option ℕ → Type 0
IsFoundIn trees found = IfSome found (λ c. c < length trees)

-- the pricer is filled for the prices, and the least sum of a tree of the day is known
pub record IsPricedWith (d : Day) (p : PriceView) (w : PricerView) (z : Option ℤ) : Type 0 where
  pub priced : IsPriced d p w
  pub least : IsLeast (IsDayTree d.instance.now.grammar) (tree_sum p 1) z

-- each cell has its count and its saving
pub record HasCells (i : Instance) (w : Draft) : Type 0 where
  pub counts : length w.counts.items ≡ length i.cells
  pub savings : length w.savings.items ≡ length i.cells

-- all of it is as before but the savings, of which there are as many
pub record KeepsDraft (old new : Draft) : Type 0 where
  pub as_many : length new.savings.items ≡ length old.savings.items
  pub kept : new ≡ record old { savings = new.savings }
