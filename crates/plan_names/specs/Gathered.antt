-- Lists to which only what is new is appended, and places in them, by a test of what is the same.
use Rattle.std.specs.Prelude.{ℕ, suc, Bool, false, ◌||◌, cond, List, [], ◌∷◌, ◌++◌}

-- one of these is the same
abbrev pub has : {A : Type 0} → (A → A → Bool) → A → List A → Bool
has same x [] = false
has same x (y ∷ ys) = same x y || has same x ys

-- ... with this one behind them, where it is new
abbrev pub with_new : {A : Type 0} → (A → A → Bool) → List A → A → List A
with_new same xs y = cond (has same y xs) xs (xs ++ y ∷ [])

-- ... with all of these, one after another
abbrev pub with_all : {A : Type 0} → (A → A → Bool) → List A → List A → List A
with_all same xs [] = xs
with_all same xs (y ∷ ys) = with_all same (with_new same xs y) ys

-- the place of the first that is the same, from 0; behind all where none is
abbrev pub place : {A : Type 0} → (A → A → Bool) → A → List A → ℕ
place same x [] = 0
place same x (y ∷ ys) = cond (same x y) 0 (suc (place same x ys))
