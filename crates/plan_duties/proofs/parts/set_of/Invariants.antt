use Rattle.std.proofs.Common.{◌≡◌, [], drop}
use Rattle.plan_fields.specs.Steps.{each}
use Rattle.plan_duties.specs.PartWords.{set_step}
use Rattle.plan_duties.proofs.parts.set_of.Given as goal

abbrev pub invariant-loop-code : goal.invariant-loop-code
invariant-loop-code l = each (set_step l.lines l.word) [] l.codes ≡ each (set_step l.lines l.word) l.set (drop l.code-index l.codes)
