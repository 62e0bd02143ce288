use Rattle.std.proofs.Common.{◌≡◌, ◌≤◌, ◌+◌, ◌*◌, ◌^◌, drop}
use Rattle.plan_duties.specs.Sums.{parts_least}
use Rattle.plan_duties.proofs.sums.parts_least.Given as goal

abbrev pub invariant-loop-part : goal.invariant-loop-part
invariant-loop-part l = (l.least + parts_least l.draft l.range (drop l.part-index l.parts) ≡ parts_least l.draft l.range l.parts) × (l.least ≤ l.part-index * 2 ^ 32)
