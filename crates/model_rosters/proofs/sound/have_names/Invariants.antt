use Rattle.std.proofs.Common.{◌≡◌, ℕ, ◌<◌, Some, List}
use Rattle.std.specs.Prelude.{slice_get}
use Rattle.model_rosters.specs.Sound.{IsNameOf}
use Rattle.model_rosters.proofs.sound.have_names.Given as goal

abbrev pub invariant-loop-place : goal.invariant-loop-place
invariant-loop-place l = (x : ℕ) (name : List ℕ) → x < l.place → slice_get l.grammar.names x ≡ Some name → IsNameOf l.grammar x name
