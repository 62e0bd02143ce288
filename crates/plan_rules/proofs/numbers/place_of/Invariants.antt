use Rattle.std.proofs.Common.{◌≡◌, ◌+◌, map, drop}
use Rattle.plan_names.specs.Same.{same}
use Rattle.plan_names.specs.Views.{kind_of}
use Rattle.plan_names.specs.Gathered.{place}
use Rattle.plan_rules.proofs.numbers.place_of.Given as goal

abbrev pub invariant-loop-other : goal.invariant-loop-other
invariant-loop-other l = record {
  number : l.number ≡ l.other-index;
  rest : place same (kind_of l.name) (map kind_of l.names) ≡ l.number + place same (kind_of l.name) (map kind_of (drop l.other-index l.names));
}
