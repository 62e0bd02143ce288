use Rattle.text_old_shifts.proofs.SoundReadings.{text_sound}
use Rattle.text_old_shifts.proofs.read.read_shifts.Goals as goal

pub returns-clause-sound : goal.returns-clause-sound
returns-clause-sound c = text_sound c.args.instance.now c.args.text.now c.begun.result c.begun.ensures
