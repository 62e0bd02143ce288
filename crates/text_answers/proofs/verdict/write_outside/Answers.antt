use Rattle.std.proofs.Common.{ap, ◌++◌, ◌∙◌, append_assoc, ◌∷◌, []}
use Rattle.std.specs.Prelude.{codes}
use Rattle.text_answers.specs.VerdictText.{field}
use Rattle.text_answers.proofs.TextParts.{three}
use Rattle.text_answers.proofs.verdict.write_outside.Goals as goal

pub returns : goal.returns
returns c =
    let head = codes "no 9 outside floor or ceiling: code " in
    let at = codes " period" ++ field c.args.period in
    let code = c.in_ok-push.ensures.ok ∙ ap (λ t. t ++ (c.args.code ∷ [])) c.in_ok-put.ensures.ok ∙ append_assoc c.args.out.now head (c.args.code ∷ []) in
    let period = rw c.from.ensures at c.in_ok-write_number.ensures in
    three _ _ _ c.args.out.now (head ++ (c.args.code ∷ [])) at (codes " have" ++ field c.args.have) (period ∙ ap (λ t. t ++ at) code) (rw c.from-2.ensures at c.write_number-2.ensures)
