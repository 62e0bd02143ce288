use Rattle.text_relaxed_days.proofs.RelaxedSound.{demand-sound}
use Rattle.text_relaxed_days.proofs.day.relaxed_demand.Goals as goal

pub returns-clause-sound : goal.returns-clause-sound
returns-clause-sound c = λ h. rw (c.in_ok-cells.ensures, c.as_slice.ensures) (demand-sound c.args.kind c.args.instance h)
