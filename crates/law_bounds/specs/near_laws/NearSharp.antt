-- Splits that a near solution shows to be sharp.
use Rattle.std.specs.Prelude.{ℕ, ◌<◌, ◌≤◌, ◌+◌, ◌-◌, ◌*◌, ◌^◌, ◌⊎◌, cond, List}
use Rattle.model_rosters.specs.declared.grammar.ArcKey.{ArcKey}
use Rattle.model_rosters.specs.declared.instance.Cut.{Cut}
use Rattle.model_rosters.specs.declared.instance.Instance.{Instance}
use Rattle.model_rosters.specs.declared.instance.Prices.{Prices}
use Rattle.model_rosters.specs.Arcs.{IsArc}
use Rattle.model_rosters.specs.Cuts.{base_cuts}
use Rattle.model_rosters.specs.Folds.{sum_n, In}
use Rattle.model_rosters.specs.Trees.{Parts, IsDayTree}
use Rattle.model_rosters.specs.arc_laws.Counts.{AreCounts, counts_cost}
use Rattle.model_rosters.specs.arc_laws.Lists.{AreArcs}
use Rattle.law_bounds.specs.Counted.{IsLeft}
use Rattle.law_bounds.specs.Priced.{IsPricedValue}
use Rattle.law_bounds.specs.linear_programs.Solution.{Weighted, Each as EachKey}
use Rattle.law_bounds.specs.master_laws.Rows.{Row, rows_of}
use Rattle.law_bounds.specs.master_laws.Master.{is_artificial}
use Rattle.law_bounds.specs.master_laws.Sharp.{IsSharp, arc_weight}
use Rattle.law_bounds.specs.near_laws.Completed.{trees_bring, tree_columns}
use Rattle.law_bounds.specs.near_laws.Laws.{AreNear}

-- a number over q is at least 2^-12 above b, and at least 2^-12 below b + 1
pub record IsWellBetween (q b n : ℕ) : Type 0 where
  pub above : 4096 * (q * b) + q ≤ 4096 * n
  pub below : 4096 * n + q ≤ 4096 * (q * (b + 1))

-- a number over q is within 2^-12 of k
pub record IsNearly (q k n : ℕ) : Type 0 where
  pub above : 4096 * n ≤ 4096 * (q * k) + q
  pub below : 4096 * (q * k) ≤ 4096 * n + q

-- what the trees lack of a row that has an artificial column, times q
abbrev pub lacking : ℕ → List (Weighted Parts) → Row → ℕ
lacking q ws x = cond (is_artificial x.sense) (q * x.right - trees_bring x ws) 0

-- artificial columns weigh 2^-20 or more together, where they take what the trees lack
abbrev pub LackMuch : Instance → List Cut → ℕ → List (Weighted Parts) → Type 0
LackMuch i cuts q ws = q ≤ 2 ^ 20 * sum_n (lacking q ws) (rows_of i cuts)

-- the weight of the trees that have the arc, times q
abbrev pub near_weight : ArcKey → List (Weighted Parts) → ℕ
near_weight a ws = arc_weight a (tree_columns ws)

-- counts of the arcs of an allowed roster, groups and all
pub record AreRosterCounts (i : Instance) (listed : List ArcKey) (value : ArcKey → ℕ) : Type 0 where
  pub counts : AreCounts i listed value
  pub left : (a : ArcKey) → In a listed → IsLeft i (base_cuts i) a (value a)

-- whole counts that the weight of each arc is within 2^-12 of; where they are the counts of an allowed
-- roster, what the prices show here is below its cost, so that this roster did not close the node
pub record AreNearlyWhole (i : Instance) (cuts : List Cut) (p : Prices) (q : ℕ) (ws : List (Weighted Parts)) :
    Type 0 where
  pub value : ArcKey → ℕ
  pub near : (a : ArcKey) → IsArc i.grammar a → IsNearly q (value a) (near_weight a ws)
  pub dearer : (listed : List ArcKey) → AreArcs i.grammar listed → AreRosterCounts i listed value
      → (shown : ℕ) → IsPricedValue i p cuts shown → shown < counts_cost i listed value

-- Weighted trees of the day show that the prices are best, and the arc's weight lies well between b and b + 1,
-- or they lack much, or the weight of each arc is nearly whole and the roster of these whole numbers, if there
-- is one, does not close the node. The margins are there since weights that show prices best may be moved a
-- little: without them any whole weight could pass for one that is not.
pub record IsNearSharpBy (i : Instance) (cuts : List Cut) (p : Prices) (a : ArcKey) (b : ℕ)
    (ws : List (Weighted Parts)) (q : ℕ) : Type 0 where
  pub positive : 0 < q
  pub trees : EachKey (IsDayTree i.grammar) ws
  pub near : AreNear i cuts ws q p
  pub reason : IsWellBetween q b (near_weight a ws) ⊎ LackMuch i cuts q ws ⊎ AreNearlyWhole i cuts p q ws

-- the split of the node on the arc at b is near-sharp for these prices
abbrev pub IsNearSharp : Instance → List Cut → Prices → ArcKey → ℕ → Type 0
IsNearSharp i cuts p a b = (ws : List (Weighted Parts)) × (q : ℕ) × IsNearSharpBy i cuts p a b ws q

-- what is promised of a split with prices: it is sharp, or near-sharp for them
abbrev pub IsSharpFor : Instance → List Cut → Prices → ArcKey → ℕ → Type 0
IsSharpFor i cuts p a b = IsSharp i cuts a b ⊎ IsNearSharp i cuts p a b
