use Rattle.std.proofs.Common.{◌≡◌, ◌+◌, ◌*◌, ◌≤◌, drop}
use Rattle.model_rosters.specs.declared.instance.Group.{Group}
use Rattle.model_rosters.specs.Folds.{sum_n}
use Rattle.model_rosters.proofs.groups.least_heads.Given as goal

abbrev pub invariant-loop-group : goal.invariant-loop-group
invariant-loop-group l = record {
  value : sum_n (λ (g : Group). g.heads_min) l.groups ≡ l.sum + sum_n (λ (g : Group). g.heads_min) (drop l.group-index l.groups);
  within : l.sum ≤ 4294967295 * l.group-index;
}
