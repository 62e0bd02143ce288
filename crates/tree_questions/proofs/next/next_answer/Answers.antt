use Rattle.std.proofs.Common.{◌≡◌, Bool, true, false, sym, ◌∙◌}
use Rattle.tree_questions.proofs.NextLemmas.{next-some, next-longest}
use Rattle.tree_questions.proofs.next.next_answer.Goals as goal

pub returns-then-is_empty : goal.returns-then-is_empty
returns-then-is_empty c =
    next-longest c.args.grammar.now c.args.prefix.now c.in_ok-lines.lines c.in_ok-lines.ensures (c.is_empty.ensures.0 c.if-is_empty.true) c.longest_answer.result c.longest_answer.ensures

pub returns : goal.returns
returns c =
    next-some c.args.grammar.now c.args.prefix.now c.in_ok-lines.lines c.in_ok-lines.ensures
    (λ e. let no_line : ◌≡◌ {A = Bool} true false = sym (c.is_empty.ensures.1 e) ∙ c.if-is_empty.false in cc)
