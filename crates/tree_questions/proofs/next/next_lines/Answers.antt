use Rattle.std.proofs.Common.{[], ◌∷◌}
use Rattle.std.specs.Prelude.{codes}
use Rattle.tree_questions.proofs.ShiftQuestions.{past-day}
use Rattle.tree_questions.proofs.NextLemmas.{next-text, next-none}
use Rattle.tree_questions.proofs.next.next_lines.Goals as goal

pub returns-then-grammar-prefix : goal.returns-then-grammar-prefix
returns-then-grammar-prefix c =
    next-none c.args.grammar.now c.args.prefix.now c.new-lines.result c.new-lines.ensures
    (past-day c.args.grammar.now c.requires (codes "code" ∷ []) c.args.prefix.now c.if-grammar-prefix.true)

pub returns : goal.returns
returns c = next-text c.args.grammar.now c.args.prefix.now c.new-lines.result c.add_next_lines.new.out c.new-lines.ensures c.in_ok-add_next_lines.ensures
