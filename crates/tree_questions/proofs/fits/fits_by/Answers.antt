use Rattle.tree_questions.proofs.FittingLemmas.{none-fits, ok-none}
use Rattle.tree_questions.proofs.fits.fits_by.Goals as goal

pub returns-in-None : goal.returns-in-None
returns-in-None c =
    let p = c.args.prices.now in
    ok-none p.grammar.now p.pattern.now c.no_shift.result
    (none-fits p.grammar.now c.requires.sound p.pattern.now c.requires.pattern (rw (c.in-None.is, c.requires.any) at c.fill.ensures.least)) c.no_shift.ensures
