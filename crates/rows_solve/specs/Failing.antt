-- Where the master that fails on purpose does, and what it answers then.
use Rattle.std.specs.Prelude.{ℕ, ◌&&◌, ◌||◌, not, nat_eq, Bool, true, false, List, [], ◌∷◌, Result, Ok}
use Rattle.std.specs.List.{list_any}
use Rattle.model_rosters.specs.declared.memory.Memory.{Memory as MemoryLack}
use Rattle.search_masters.specs.declared.ends.Cause.TheVariants.{Spent}
use Rattle.search_masters.specs.declared.ends.NodeEnd.{NodeEnd}
use Rattle.search_masters.specs.declared.ends.NodeEnd.TheVariants.{Failed}

abbrev pub is_empty : List ℕ → Bool
is_empty [] = true
is_empty (x ∷ xs) = false

-- a master that never fails of its own
abbrev pub is_none_listed : Bool → List ℕ → Bool
is_none_listed every calls = not every && is_empty calls

-- whether a master fails of its own at the call of this number: at every call, or at those that are listed
abbrev pub fails_at : Bool → List ℕ → ℕ → Bool
fails_at every calls n = every || list_any (λ y. nat_eq y n) calls

-- what it answers then
abbrev pub failure : Result NodeEnd MemoryLack
failure = Ok (Failed (Spent 0))
