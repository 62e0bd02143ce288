-- Columns of a pool.
use Rattle.std.specs.Prelude.{ℕ, ◌<◌, List, All}

-- each is below n
abbrev pub AreFewer : ℕ → List ℕ → Type 0
AreFewer n columns = All (λ (c : ℕ). c < n) columns
