use Rattle.std.proofs.Common.{◌≡◌, ◌++◌, take}
use Rattle.text_lines.specs.Written.{written}
use Rattle.plan_labels.specs.LabelText.{all_work_lines}
use Rattle.plan_labels.proofs.codes.work_lines.Given as goal

abbrev pub invariant-loop-code : goal.invariant-loop-code
invariant-loop-code l = l.out ≡ l.fn.out ++ written (all_work_lines (take l.code-index l.codes))
