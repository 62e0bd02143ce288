use Rattle.std.proofs.Common.{[], ◌∷◌}
use Rattle.std.proofs.lemmas.Result.{IfOk-weaker}
use Rattle.std.specs.Prelude.{codes}
use Rattle.tree_questions.proofs.ShiftQuestions.{next-codes}
use Rattle.tree_questions.proofs.next.add_next_lines.Goals as goal

pub returns : goal.returns
returns c =
    let new = c.add_code_lines.new.out in
    IfOk-weaker c.add_code_lines.result _ _ (λ _. next-codes c.args.grammar.now (codes "code" ∷ []) c.args.prefix.now c.args.out.now new)
    (rw (c.new-prices.ensures.grammar, c.new-prices.ensures.any, c.new-prices.ensures.pattern) at c.add_code_lines.ensures)

pub add_code_lines-requires-clause-filled : goal.add_code_lines-requires-clause-filled
add_code_lines-requires-clause-filled c =
    let same = c.new-prices.ensures.grammar in
    rw same (rw same at c.fill.ensures.marginals)
