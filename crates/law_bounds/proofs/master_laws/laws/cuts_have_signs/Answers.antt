use Rattle.law_bounds.proofs.master_laws.Signs.{cuts_signed}
use Rattle.law_bounds.proofs.master_laws.laws.cuts_have_signs.Goals as goal

pub returns : goal.returns
returns c = cuts_signed
