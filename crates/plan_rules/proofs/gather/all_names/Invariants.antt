use Rattle.std.proofs.Common.{◌≡◌, ◌≤◌, length, map, take}
use Rattle.plan_names.specs.Views.{kind_of}
use Rattle.plan_rules.specs.Closed.{AreNeeded, gathered}
use Rattle.plan_rules.proofs.gather.all_names.Given as goal

abbrev pub invariant-loop-place : goal.invariant-loop-place
invariant-loop-place l = record {
  closed : map kind_of l.names ≡ gathered l.plan l.staff (take l.place (map kind_of l.names));
  needed : AreNeeded l.plan l.staff l.place (map kind_of l.names);
  within : l.place ≤ length l.names;
}
