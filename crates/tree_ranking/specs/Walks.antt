-- A candidate whose first frame is looked at.
use Rattle.std.specs.Prelude.{ℤ, List, ◌∷◌}
use Rattle.model_rosters.specs.declared.grammar.Step.{Step}
use Rattle.tree_ranking.specs.declared.candidate.Candidate.{Candidate}
use Rattle.tree_ranking.specs.declared.frame.Frame.{Frame}

-- a candidate with a frame that comes first
abbrev pub first_with : ℤ → List Step → Frame → List Frame → Candidate
first_with sum ss f fs = record { sum = sum; steps = ss; pending = f ∷ fs }
