use Rattle.law_bounds.proofs.linear_programs.Values.{dot_unit}
use Rattle.law_bounds.proofs.linear_programs.laws.unit_vectors_pick.Goals as goal

pub returns : goal.returns
returns c = λ n r y h. dot_unit n r y h
