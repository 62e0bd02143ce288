-- How a node ends over any master, what licenses a refusal, and how refusals are counted.
use Rattle.std.specs.Prelude.{ℕ, ◌≡◌, ◌<◌, ◌≤◌, ◌+◌, ◌-◌, ◌^◌, min, Bool, IsTrue, IfSome, List, length}
use Rattle.model_rosters.specs.declared.instance.Cut.{Cut}
use Rattle.model_rosters.specs.declared.instance.Instance.{Instance}
use Rattle.law_bounds.specs.master_laws.Rows.{rows_of}
use Rattle.law_bounds.specs.master_laws.Sharp.{IsHard}
use Rattle.tree_pool.specs.Pools.{PoolTree}
use Rattle.search_masters.specs.declared.ends.Cause.TheVariants.{Rows, Wide, Spent}
use Rattle.search_masters.specs.declared.ends.NodeEnd.{NodeEnd}
use Rattle.search_masters.specs.declared.ends.NodeEnd.TheVariants.{Best, Near, Failed, Stopped}
use Rattle.search_masters.specs.Ends.{IsBest, IsNear, AreLawful}

-- a refused node: its master has few enough rows, and where the refusal is strict the node is hard
pub record IsRefused (i : Instance) (cuts : List Cut) (strict : Bool) : Type 0 where
  pub few : length (rows_of i cuts) ≤ 1500
  pub hard : IsTrue strict → IsHard i cuts

-- each answer comes only where it may; more than 1,500 rows exactly where there are so many; nothing is
-- stopped where it is calm, and what is stopped has lawful prices or none
abbrev pub EndsWell : Instance → List Cut → List PoolTree → Bool → Bool → NodeEnd → Type 0
EndsWell i cuts columns strict calm (Best prices value weights) =
    (length (rows_of i cuts) ≤ 1500) × IsBest i cuts columns prices value weights
EndsWell i cuts columns strict calm (Near prices weights) =
    (length (rows_of i cuts) ≤ 1500) × IsNear i cuts columns prices weights
EndsWell i cuts columns strict calm (Failed (Rows count)) =
    (1500 < length (rows_of i cuts)) × (count ≡ length (rows_of i cuts))
EndsWell i cuts columns strict calm (Failed (Wide fault)) = IsRefused i cuts strict
EndsWell i cuts columns strict calm (Failed (Spent pivots)) = IsRefused i cuts strict
EndsWell i cuts columns strict calm (Stopped own) = (IsTrue calm → ⊥) × IfSome own (AreLawful i cuts)

-- one more, which stays at the last value of a u64
abbrev pub one_more : ℕ → ℕ
one_more n = min (n + 1) (2 ^ 64 - 1)

-- the count of refusals after a node: one more where it was given up for a number too wide or for want of
-- pivots, and else the same
abbrev pub counted : ℕ → NodeEnd → ℕ
counted n (Best prices value weights) = n
counted n (Near prices weights) = n
counted n (Failed (Rows count)) = n
counted n (Failed (Wide fault)) = one_more n
counted n (Failed (Spent pivots)) = one_more n
counted n (Stopped own) = n
