-- Order of first appearance, step by step.
use Rattle.std.specs.Prelude.{ℕ, ◌+◌, max, nat_le, Option, None, Some, if◌then◌else◌, List, [], ◌∷◌}

-- how many names are known after these numbers; none where one comes too early
abbrev pub known_after : ℕ → List ℕ → Option ℕ
known_after known [] = Some known
known_after known (x ∷ xs) = if nat_le x known then known_after (max known (x + 1)) xs else None
