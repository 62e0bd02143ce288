use Rattle.std.proofs.Common.{arith}
use Rattle.model_shift_figures.proofs.roster_changes.SearchLemmas.{alone-best, one-tried}
use Rattle.model_shift_figures.proofs.roster_changes.search.+search.Goals as goal

pub best_of-returns-then-turn-new : goal.best_of-returns-then-turn-new
best_of-returns-then-turn-new t c =
    rw c.in_ok-copy.ensures (alone-best c.args.periods c.args.old.now c.args.new.now c.args.row c.args.fixed.now (omega arith) c.requires.fits)

pub best_of-loop-place-preserved : goal.best_of-loop-place-preserved
best_of-loop-place-preserved t c =
    one-tried c.args.periods c.args.old.now c.args.new.now c.args.row c.args.fixed.now c.loop-place.place c.loop-place.best.items c.in_ok-other.other.items c.better-best.result.items
    c.loop-place.invariant c.in_ok-other.ensures c.better-best.ensures.one c.better-best.ensures.no_less c.better-best.ensures.no_less_than_other
