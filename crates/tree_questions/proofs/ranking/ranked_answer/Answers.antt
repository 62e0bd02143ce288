use Rattle.std.proofs.Common.{◌≡◌, Bool, true, false, sym, ◌∙◌}
use Rattle.tree_questions.specs.Ranked.{some}
use Rattle.tree_questions.proofs.RankedLemmas.{trees-none}
use Rattle.tree_questions.proofs.ranking.ranked_answer.Goals as goal

pub returns-then-is_empty : goal.returns-then-is_empty
returns-then-is_empty c =
    trees-none c.args.grammar.now c.requires.sound c.args.most c.requires.some c.in_ok-ranked.ranked c.in_ok-output.output (rw c.new-prices.ensures at c.in_ok-ranked.ensures) (rw c.as_slice.ensures at c.in_ok-output.ensures) (c.is_empty.ensures.0 c.if-is_empty.true)

pub returns : goal.returns
returns c =
    some c.in_ok-ranked.ranked c.in_ok-output.output (rw c.new-prices.ensures at c.in_ok-ranked.ensures) (rw c.as_slice.ensures at c.in_ok-output.ensures)
    (λ e. let no_tree : ◌≡◌ {A = Bool} true false = sym (c.is_empty.ensures.1 e) ∙ c.if-is_empty.false in cc)
