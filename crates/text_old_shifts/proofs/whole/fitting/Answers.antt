use Rattle.std.proofs.Common.{◌∙◌, ◌++◌, [], ◌∷◌, ap}
use Rattle.model_rosters.specs.declared.instance.Shift.{Shift}
use Rattle.text_old_shifts.specs.Fitting.{fitting}
use Rattle.text_old_shifts.proofs.FittingLemmas.{one_more}
use Rattle.text_old_shifts.proofs.whole.fitting.Goals as goal

pub loop-shift-preserved : goal.loop-shift-preserved
loop-shift-preserved c =
    one_more c.args.periods c.args.shifts.now c.loop-shift.shift-index c.shift-item.result c.loop-shift.out
    c.add_fitting.new.out c.loop-shift-test.true c.loop-shift.invariant
    (c.in_ok-add_fitting.ensures
    ∙ ap (λ (s : Shift). c.loop-shift.out ++ fitting c.args.periods (s ∷ [])) c.shift-item.is)
