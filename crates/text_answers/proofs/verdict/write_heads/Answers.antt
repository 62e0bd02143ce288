use Rattle.std.proofs.Common.{ap, ◌++◌, ◌∙◌}
use Rattle.std.specs.Prelude.{codes}
use Rattle.text_answers.specs.VerdictText.{field, group_field}
use Rattle.text_answers.proofs.TextParts.{three}
use Rattle.text_answers.proofs.verdict.write_heads.Goals as goal

pub returns : goal.returns
returns c =
    three _ _ _ c.args.out.now (codes "no 3 wrong heads:") (group_field c.args.group) (codes " count" ++ field c.args.count)
    (c.in_ok-write_group.ensures ∙ ap (λ t. t ++ group_field c.args.group) c.in_ok-put.ensures.ok) (rw c.from.ensures at c.write_number.ensures)
