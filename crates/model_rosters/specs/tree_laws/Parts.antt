-- The first part, and how many parts there are.
use Rattle.std.specs.Prelude.{ℕ, ◌+◌}
use Rattle.model_rosters.specs.Trees.{Parts, done, letter, uses}

-- the length of the first part
abbrev pub first : Parts → ℕ
first done = 0
first (letter c rest) = 1
first (uses r n inner rest) = n

-- the rule of the first part, 0 where that is a letter
abbrev pub root : Parts → ℕ
root done = 0
root (letter c rest) = 0
root (uses r n inner rest) = r

-- how many rule uses the parts have
abbrev pub use_count : Parts → ℕ
use_count done = 0
use_count (letter c rest) = use_count rest
use_count (uses r n inner rest) = 1 + use_count inner + use_count rest

-- how many letters and rule uses the parts have
abbrev pub part_count : Parts → ℕ
part_count done = 0
part_count (letter c rest) = 1 + part_count rest
part_count (uses r n inner rest) = 1 + part_count inner + part_count rest

-- parts and the parts that follow them
abbrev pub beside : Parts → Parts → Parts
beside done u = u
beside (letter c rest) u = letter c (beside rest u)
beside (uses r n inner rest) u = uses r n inner (beside rest u)
