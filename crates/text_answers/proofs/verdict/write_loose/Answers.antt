use Rattle.std.proofs.Common.{ap, ◌++◌, ◌∙◌}
use Rattle.std.specs.Prelude.{codes}
use Rattle.text_answers.specs.VerdictText.{field, arc_fields}
use Rattle.text_answers.proofs.TextParts.{three}
use Rattle.text_answers.proofs.verdict.write_loose.Goals as goal

pub returns : goal.returns
returns c =
    three _ _ _ c.args.out.now (codes "no 7 not pinned: node" ++ field c.args.node) (codes " arc") (arc_fields c.args.arc.now)
    (c.in_ok-put.ensures.ok ∙ ap (λ t. t ++ codes " arc") (rw c.from.ensures at c.in_ok-write_number.ensures)) c.write_arc.ensures
