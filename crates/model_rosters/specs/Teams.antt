-- Employees who share a start name.
use Rattle.std.specs.Prelude.{ℕ, ◌+◌, List, [], ◌∷◌}
use Rattle.model_rosters.specs.declared.instance.Group.{Group}
use Rattle.model_rosters.specs.declared.instance.Instance.{Instance}

-- a number, the name that derives the words, and how many employees may work
pub record Team : Type 0 where
  pub number : ℕ
  pub name : ℕ
  pub least : ℕ
  pub most : ℕ

-- the teams of groups that are numbered from k
abbrev pub teams_from : ℕ → List Group → List Team
teams_from k [] = []
teams_from k (g ∷ gs) =
    record { number = k; name = g.name; least = g.heads_min; most = g.heads_max } ∷ teams_from (k + 1) gs

-- the one team of a day without groups has the number 0, and the groups have the numbers from 1
abbrev pub teams_of : Instance → List Group → List Team
teams_of i [] = record { number = 0; name = i.grammar.start; least = i.heads_min; most = i.heads_max } ∷ []
teams_of i (g ∷ gs) = teams_from 1 (g ∷ gs)

abbrev pub teams : Instance → List Team
teams i = teams_of i i.groups
