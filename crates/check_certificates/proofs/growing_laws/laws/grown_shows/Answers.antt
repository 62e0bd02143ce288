use Rattle.check_certificates.proofs.growing_laws.GrownLemmas.{grown-shows}
use Rattle.check_certificates.proofs.growing_laws.laws.grown_shows.Goals as goal

pub returns : goal.returns
returns c = grown-shows
