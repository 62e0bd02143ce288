use Rattle.std.proofs.Common.{◌≡◌, map, take}
use Rattle.plan_laws.specs.Turned.{turned_part}
use Rattle.plan_periods.proofs.duties.parts_of.Given as goal

abbrev pub invariant-loop-part : goal.invariant-loop-part
invariant-loop-part l = l.own ≡ map (turned_part l.plan) (take l.part-index l.parts)
