-- The codes of a tree's letters, and letters period by period.
use Rattle.std.specs.Prelude.{ℕ, ◌+◌, List, [], ◌∷◌, ◌++◌}
use Rattle.model_rosters.specs.Arcs.{Letter}
use Rattle.model_rosters.specs.Trees.{Parts, done, letter, uses}

-- the codes of the letters in order
abbrev pub codes_of : Parts → List ℕ
codes_of done = []
codes_of (letter c rest) = c ∷ codes_of rest
codes_of (uses r n inner rest) = codes_of inner ++ codes_of rest

-- letters of these codes, from period i on
abbrev pub placed : ℕ → List ℕ → List Letter
placed i [] = []
placed i (c ∷ cs) = record { code = c; period = i } ∷ placed (i + 1) cs
