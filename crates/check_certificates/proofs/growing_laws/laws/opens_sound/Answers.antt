use Rattle.check_certificates.proofs.growing_laws.OpensLemmas.{opens-sound}
use Rattle.check_certificates.proofs.growing_laws.laws.opens_sound.Goals as goal

pub returns : goal.returns
returns c = opens-sound
