use Rattle.std.proofs.Common.{ℕ, ◌≡◌, ◌≤◌, ◌*◌, ◌^◌, All, length}
use Rattle.law_bounds.specs.master_laws.Rows.{rows_of}
use Rattle.lp_near_prices.proofs.ListedTrees.{IsBegun}
use Rattle.lp_near_prices.proofs.sums.sums_of.Given as goal

abbrev pub invariant-loop-tree : goal.invariant-loop-tree
invariant-loop-tree l = record {
  count : length l.sums.items ≡ length (rows_of l.instance l.cuts);
  small : All (λ (s : ℕ). s ≤ l.tree-index * 2 ^ 62) l.sums.items;
  begun : IsBegun l.instance.grammar l.pool l.listed (rows_of l.instance l.cuts) l.tree-index l.sums.items;
}
