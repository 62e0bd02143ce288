-- The fixed words of what is said.
use Rattle.std.specs.Prelude.{ℕ, List}

-- these bytes
unfoldable pub said : List ℕ → List ℕ
said bytes = bytes
