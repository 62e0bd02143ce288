use Rattle.std.proofs.Common.{◌≡◌, map, take}
use Rattle.plan_names.specs.Same.{same}
use Rattle.plan_names.specs.Views.{kind_of, symbol_of}
use Rattle.plan_names.specs.Gathered.{with_all}
use Rattle.plan_rules.specs.Closed.{names_in}
use Rattle.plan_rules.proofs.gather.add_right.Given as goal

abbrev pub invariant-loop-symbol : goal.invariant-loop-symbol
invariant-loop-symbol l = map kind_of l.names ≡ with_all same (map kind_of l.fn.names) (names_in (map symbol_of (take l.symbol-index l.right)))
