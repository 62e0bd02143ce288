use Rattle.std.proofs.Common.{◌≡◌, ◌++◌, take}
use Rattle.plan_rules.specs.Grammars.{codes_of}
use Rattle.plan_rules.proofs.codes.add_codes.Given as goal

abbrev pub invariant-loop-activity : goal.invariant-loop-activity
invariant-loop-activity l = l.codes ≡ l.fn.codes ++ codes_of l.work (take l.activity-index l.activities)
