use Rattle.std.proofs.Common.{◌≡◌, ◌≤◌, ◌+◌, ℕ, ℤ, pos, cond, Some, length}
use Rattle.std.specs.Prelude.{slice_get, nat_lt}
use Rattle.model_rosters.specs.declared.instance.Cut.{Cut}
use Rattle.model_rosters.specs.Arcs.{same_arc}
use Rattle.model_rosters.specs.Folds.{count}
use Rattle.tree_pool.specs.Pools.{PoolTree}
use Rattle.lp_master_rows.specs.Entries.{AreListed}
use Rattle.lp_master_rows.proofs.entries.Entries.add_cuts.Given as goal

abbrev pub invariant-loop-cut : goal.invariant-loop-cut
invariant-loop-cut l = (n : ℕ) (entry : ℕ → ℤ) (x : PoolTree) → slice_get l.pool l.column ≡ Some x → AreListed n entry l.fn.self → n + length l.cuts ≤ 1500
    → ((k : ℕ) (c : Cut) → slice_get l.cuts k ≡ Some c → entry (n + k) ≡ pos (cond (nat_lt 0 (count (same_arc c.arc) x.arcs)) 1 0))
    → AreListed (n + l.cut-index) entry l.self
