-- How many there are of something.
use Rattle.std.specs.Prelude.{ℕ, List, [], ◌++◌, codes, nat_eq, if◌then◌else◌}
use Rattle.std.specs.Fmt.{decimal}

-- the ending of a noun for more or fewer than one
unfoldable pub many : ℕ → List ℕ
many count = if nat_eq count 1 then [] else codes "s"

-- a number and a noun
abbrev pub counted : ℕ → List ℕ → List ℕ
counted count noun = decimal count ++ (codes " " ++ (noun ++ many count))
