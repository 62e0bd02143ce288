-- The place of a fault in the line that tells it.
use Rattle.std.specs.Prelude.{ℕ, List, [], ◌++◌, Option, Some, None, codes}
use Rattle.std.specs.Fmt.{decimal}

-- the line that a fault carries, or nothing
abbrev pub place_text : Option ℕ → List ℕ
place_text None = []
place_text (Some k) = codes "line " ++ decimal k ++ codes ": "
