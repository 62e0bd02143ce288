use Rattle.law_bounds.proofs.master_laws.RoundedValue.{rounded_value}
use Rattle.law_bounds.proofs.master_laws.laws.rounded_show_value.Goals as goal

pub returns : goal.returns
returns c = rounded_value
