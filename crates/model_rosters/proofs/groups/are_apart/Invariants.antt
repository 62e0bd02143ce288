use Rattle.std.proofs.Common.{◌≡◌, ◌≢◌, ℕ, ◌<◌, Some}
use Rattle.std.specs.Prelude.{slice_get}
use Rattle.model_rosters.specs.declared.instance.Group.{Group}
use Rattle.model_rosters.proofs.groups.are_apart.Given as goal

abbrev pub invariant-loop-j : goal.invariant-loop-j
invariant-loop-j l = (i j : ℕ) (a b : Group) → i < j → j < l.j → slice_get l.groups i ≡ Some a → slice_get l.groups j ≡ Some b → a.name ≢ b.name

abbrev pub invariant-loop-group : goal.invariant-loop-group
invariant-loop-group l = (i : ℕ) (a : Group) → i < l.group-index → slice_get l.groups i ≡ Some a → a.name ≢ l.later.name
