use Rattle.std.proofs.Common.{arith}
use Rattle.model_shift_figures.proofs.roster_changes.LeastLemmas.{place-there}
use Rattle.model_shift_figures.proofs.roster_changes.figures.new_periods.Goals as goal

pub periods_of-requires : goal.periods_of-requires
periods_of-requires c =
    rw c.choice_at-chosen.ensures (place-there c.args.old.now c.args.new.now c.args.matching.now c.requires.is_matching c.loop-at.at (omega arith))
