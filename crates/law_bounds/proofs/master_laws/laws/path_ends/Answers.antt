use Rattle.law_bounds.proofs.master_laws.Ends.{path_end}
use Rattle.law_bounds.proofs.master_laws.laws.path_ends.Goals as goal

pub returns : goal.returns
returns c = λ i cuts n t v q path out some e. path_end i cuts n t path out v q some e
