use Rattle.std.proofs.Common.{◌≡◌, ◌++◌, take}
use Rattle.plan_rules.specs.NameTexts.{set_codes}
use Rattle.plan_rules.proofs.texts.add_set.Given as goal

abbrev pub invariant-loop-activity : goal.invariant-loop-activity
invariant-loop-activity l = l.text ≡ l.fn.text ++ set_codes (take l.activity-index l.set)
