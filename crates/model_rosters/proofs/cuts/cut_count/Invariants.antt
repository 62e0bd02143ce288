use Rattle.std.proofs.Common.{◌≡◌, ◌≤◌, ◌+◌, ◌*◌, drop}
use Rattle.model_rosters.specs.Folds.{sum_n}
use Rattle.model_rosters.specs.Cuts.{group_cut_count}
use Rattle.model_rosters.proofs.cuts.cut_count.Given as goal

abbrev pub invariant-loop-group : goal.invariant-loop-group
invariant-loop-group l = record {
  value : sum_n (group_cut_count l.most) l.groups ≡ l.count + sum_n (group_cut_count l.most) (drop l.group-index l.groups);
  within : l.count ≤ 2 * l.group-index;
}
