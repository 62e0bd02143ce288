use Rattle.std.proofs.Common.{◌≡◌, ◌++◌, take}
use Rattle.text_lines.specs.Written.{written}
use Rattle.plan_labels.specs.LabelText.{all_group_lines}
use Rattle.plan_labels.proofs.staff.group_lines.Given as goal

abbrev pub invariant-loop-line : goal.invariant-loop-line
invariant-loop-line l = l.out ≡ l.fn.out ++ written (all_group_lines (take l.line-index l.staff))
