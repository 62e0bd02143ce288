use Rattle.std.proofs.Common.{◌≡◌, ◌≢◌, ℕ, ◌<◌, Some}
use Rattle.std.specs.Prelude.{slice_get}
use Rattle.model_rosters.specs.declared.grammar.CodeDef.{CodeDef}
use Rattle.model_rosters.proofs.sound.have_own_bytes.Given as goal

abbrev pub invariant-loop-j : goal.invariant-loop-j
invariant-loop-j l = (i j : ℕ) (a b : CodeDef) → i < j → j < l.j → slice_get l.codes i ≡ Some a → slice_get l.codes j ≡ Some b → a.byte ≢ b.byte

abbrev pub invariant-loop-code : goal.invariant-loop-code
invariant-loop-code l = (i : ℕ) (a : CodeDef) → i < l.code-index → slice_get l.codes i ≡ Some a → a.byte ≢ l.later.byte
