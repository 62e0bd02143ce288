use Rattle.std.proofs.Common.{◌≡◌, take}
use Rattle.page_derived_rules.specs.RuledTrees.{ruled_text}
use Rattle.page_derived_rules.proofs.text.ruled_text.Given as goal

abbrev pub invariant-loop-step : goal.invariant-loop-step
invariant-loop-step l = l.out ≡ ruled_text l.grammar l.word l.cost (take l.step-index l.steps)
