use Rattle.std.proofs.Common.{◌≡◌, ◌≤◌, ◌+◌, ◌*◌, ◌^◌, drop}
use Rattle.plan_duties.specs.Sums.{parts_greatest}
use Rattle.plan_duties.proofs.sums.parts_greatest.Given as goal

abbrev pub invariant-loop-part : goal.invariant-loop-part
invariant-loop-part l = (l.greatest + parts_greatest l.draft l.range (drop l.part-index l.parts) ≡ parts_greatest l.draft l.range l.parts) × (l.greatest ≤ l.part-index * 2 ^ 32)
