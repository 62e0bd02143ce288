use Rattle.model_made_days.proofs.SoundDay.{sound_day}
use Rattle.model_made_days.proofs.laws.each_day_is_sound.Goals as goal

pub returns : goal.returns
returns c = sound_day
