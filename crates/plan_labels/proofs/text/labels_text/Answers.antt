use Rattle.std.proofs.Common.{[]}
use Rattle.plan_labels.specs.LabelText.{all_group_lines, code_lines, day_lines, money_lines}
use Rattle.plan_labels.proofs.LabelLemmas.{four_then}
use Rattle.plan_labels.proofs.text.labels_text.Goals as goal

pub returns : goal.returns
returns c =
    let p = c.args.plan.now in
    four_then _ c.day_lines.new.out c.code_lines.new.out c.group_lines.new.out c.money_lines.new.out (day_lines p) (code_lines p) (all_group_lines p.staff) (money_lines p.money)
    (c.new-out.ensures) c.in_ok-day_lines.ensures c.in_ok-code_lines.ensures (rw c.as_slice.ensures at c.in_ok-group_lines.ensures) c.in_ok-money_lines.ensures
