-- The letters of all the trees of a list.
use Rattle.std.specs.Prelude.{Bool, ◌&&◌, nat_eq, List, [], ◌∷◌, ◌++◌}
use Rattle.model_rosters.specs.Trees.{Parts}
use Rattle.model_rosters.specs.Arcs.{Letter, letters}

abbrev pub has_letter : Letter → Letter → Bool
has_letter l m = nat_eq l.code m.code && nat_eq l.period m.period

abbrev pub letters_of : List Parts → List Letter
letters_of [] = []
letters_of (t ∷ ts) = letters 1 t ++ letters_of ts
