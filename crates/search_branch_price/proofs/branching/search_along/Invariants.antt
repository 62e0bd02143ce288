use Rattle.std.proofs.Common.{◌≡◌, ◌-◌}
use Rattle.std.specs.Prelude.{IsTrue}
use Rattle.tree_pool.specs.Pools.{IsGrown}
use Rattle.search_primal.specs.Workspaces.{IsBench}
use Rattle.search_primal.specs.OldRosters.{ReachesOld}
use Rattle.search_branch_price.specs.Loops.{IsLooping}
use Rattle.search_branch_price.proofs.branching.search_along.Given as goal

abbrev pub invariant-loop-leaf : goal.invariant-loop-leaf
invariant-loop-leaf g l =
    IsLooping l.fn.job.searched.day.instance.now l.fn.job.searched.day.graph.now (g.M.Master.strict l.fn.master) (g.M.Master.refused l.fn.master) (g.M.Master.refused l.master) l.fn.job.turns l.progress
    × (g.M.Master.strict l.master ≡ g.M.Master.strict l.fn.master)
    × IsBench l.fn.job.searched.day l.pool l.bench
    × IsGrown l.fn.pool l.pool
    × (IsTrue (g.W.Watch.patient l.fn.watch) → IsTrue (g.W.Watch.patient l.watch))
    × ReachesOld l.fn.job.searched.day.instance.now l.fn.job.start.shifts.now l.progress.best

abbrev pub decreases-loop-leaf : goal.decreases-loop-leaf
decreases-loop-leaf g l = l.fn.job.turns - l.progress.tree.processed
