use Rattle.std.proofs.Common.{◌≡◌, map, drop}
use Rattle.plan_names.specs.Same.{same}
use Rattle.plan_names.specs.Views.{kind_of}
use Rattle.plan_names.specs.Gathered.{has}
use Rattle.plan_rules.proofs.gather.has_name.Given as goal

abbrev pub invariant-loop-other : goal.invariant-loop-other
invariant-loop-other l = has same (kind_of l.name) (map kind_of l.names) ≡ has same (kind_of l.name) (map kind_of (drop l.other-index l.names))
