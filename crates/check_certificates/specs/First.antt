-- The first item of a list with a property.
use Rattle.std.specs.Prelude.{ℕ, ◌≡◌, ◌≤◌, ◌<◌, ◌-◌, Some, List, slice_get}

-- item number k, counted from 1, is the first that meets P
pub record IsFirst {A : Type 0} (P : A → Type 0) (items : List A) (k : ℕ) (item : A) : Type 0 where
  pub positive : 1 ≤ k
  pub place : slice_get items (k - 1) ≡ Some item
  pub meets : P item
  pub before : (j : ℕ) (x : A) → j < k - 1 → slice_get items j ≡ Some x → P x → ⊥
