use Rattle.plan_rules.proofs.SoundGrammar.{sound_law}
use Rattle.plan_rules.proofs.laws.rules_are_sound.Goals as goal

pub returns : goal.returns
returns c = sound_law
