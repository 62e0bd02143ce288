use Rattle.std.specs.Prelude.{◌≤◌, ℕ, List, take, length, Option}
use Rattle.std.specs.Io.KnownBytes.{Appends}

-- a front of the bytes was written
abbrev pub AppendsPart : Option (List ℕ) → Option (List ℕ) → List ℕ → Type 0
AppendsPart old new bytes = (n : ℕ) × (n ≤ length bytes) × Appends old new (take n bytes)
