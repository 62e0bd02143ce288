use Rattle.std.specs.Prelude.{ℕ, ℤ, List, [], ◌∷◌, IfSome, All, slice_get, zero, suc}
use Rattle.std.proofs.lemmas.List.Elements.{All-head, All-tail}
use Rattle.model_rosters.specs.Sums.{Within}

-- a number of a list of small numbers is small
pub get-within : {n : ℕ} (xs : List ℤ) (k : ℕ) → All (Within n) xs → IfSome (slice_get xs k) (Within n)
get-within [] k h = tt
get-within (x ∷ xs) zero h = All-head (Within _) x xs h
get-within (x ∷ xs) (suc k) h = get-within xs k (All-tail (Within _) x xs h)
