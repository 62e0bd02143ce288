-- What is asked of a master at a node, and how it ends.
use Rattle.std.specs.Prelude.{ℕ, ◌≡◌, ◌≤◌, ◌<◌, ◌-◌, ◌^◌, Bool, MatchResult, List, length, Result}
use Rattle.model_rosters.specs.declared.instance.Cut.{Cut}
use Rattle.model_rosters.specs.declared.instance.Instance.{Instance}
use Rattle.model_rosters.specs.declared.memory.Memory.{Memory as MemoryLack}
use Rattle.model_rosters.specs.Folds.{Each}
use Rattle.tree_pool.specs.Pools.{PoolTree}
use Rattle.search_masters.specs.declared.ends.NodeEnd.{NodeEnd}
use Rattle.search_masters.specs.Ends.{IsNodeCut}
use Rattle.search_masters.specs.Refusals.{EndsWell, counted}
use Rattle.search_primal.specs.declared.open_node.OpenNode.{OpenNode}

-- a master may be asked at these cuts
pub record AreNodeCuts (i : Instance) (cuts : List Cut) : Type 0 where
  pub each : Each (IsNodeCut i) cuts
  pub few : length cuts < 2 ^ 31

-- the master of the node ended well, asked with a watch that is patient or not
abbrev pub EndsAt : OpenNode → List PoolTree → Bool → Bool → NodeEnd → Type 0
EndsAt n trees strict patient end = EndsWell n.searched.day.instance.now n.cuts.now trees strict patient end

-- a refused node was counted, and nothing else
pub record IsCounted (r : Result NodeEnd MemoryLack) (before now : ℕ) : Type 0 where
  pub counts : MatchResult r (λ end. now ≡ counted before end) (λ fault. now ≡ before)
  pub rises : before ≤ now
  pub within : now ≤ 2 ^ 64 - 1
