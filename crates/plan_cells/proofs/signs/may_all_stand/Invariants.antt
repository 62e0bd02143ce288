use Rattle.std.proofs.Common.{◌≡◌, length, drop}
use Rattle.std.specs.List.{list_all}
use Rattle.std.specs.Str.{chars}
use Rattle.plan_cells.specs.Signs.{may_stand}
use Rattle.plan_cells.proofs.signs.may_all_stand.Given as goal

abbrev pub invariant-loop-c : goal.invariant-loop-c
invariant-loop-c l =
    (l.passed ≡ length l.yielded) × (list_all may_stand (drop l.passed (chars l.text)) ≡ list_all may_stand (chars l.text))
