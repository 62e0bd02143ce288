use Rattle.std.proofs.Common.{◌≡◌, take}
use Rattle.text_answers.specs.TreeText.{tree_text}
use Rattle.text_answers.proofs.tree.write_tree.Given as goal

abbrev pub invariant-loop-step : goal.invariant-loop-step
invariant-loop-step l = l.out ≡ tree_text l.grammar l.word l.cost (take l.step-index l.steps)
