use Rattle.text_demand.proofs.Extension.{extension_sound}
use Rattle.text_demand.proofs.laws.extension_is_sound.Goals as goal

pub returns : goal.returns
returns c = extension_sound
