use Rattle.page_parts.proofs.UnitLemmas.{shows_units}
use Rattle.page_parts.proofs.laws.amounts_are_units.Goals as goal

pub returns : goal.returns
returns c = shows_units
