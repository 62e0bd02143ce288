use Rattle.std.proofs.Common.{◌≡◌, ◌≢◌, ℕ, ◌<◌, Some, List}
use Rattle.std.specs.Prelude.{slice_get}
use Rattle.model_rosters.proofs.sound.are_apart.Given as goal

abbrev pub invariant-loop-j : goal.invariant-loop-j
invariant-loop-j l = (i j : ℕ) (a b : List ℕ) → i < j → j < l.j → slice_get l.names i ≡ Some a → slice_get l.names j ≡ Some b → a ≢ b

abbrev pub invariant-loop-name : goal.invariant-loop-name
invariant-loop-name l = (i : ℕ) (a : List ℕ) → i < l.name-index → slice_get l.names i ≡ Some a → a ≢ l.later
