use Rattle.tree_questions.proofs.ShiftQuestions.{other-length}
use Rattle.tree_questions.proofs.FittingLemmas.{ok-none}
use Rattle.tree_questions.proofs.fits.fits_answer.Goals as goal

pub returns-then-pattern-grammar : goal.returns-then-pattern-grammar
returns-then-pattern-grammar c =
    ok-none c.args.grammar.now c.args.pattern.now c.no_shift.result (other-length c.args.grammar.now c.requires c.args.pattern.now c.if-pattern-grammar.true) c.no_shift.ensures
