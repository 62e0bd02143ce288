use Rattle.law_bounds.proofs.master_laws.Rivals.{rivals_less}
use Rattle.law_bounds.proofs.master_laws.laws.rivals_show_less.Goals as goal

pub returns : goal.returns
returns c = rivals_less
