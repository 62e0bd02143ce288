-- What soundness says of a rule and of the symbols of its right side.
use Rattle.std.proofs.Common.{◌≡◌, ℕ, zero, suc, ◌≤◌, ◌+◌, List, ◌∷◌, Some, All, length, drop, arith, subst, add-one}
use Rattle.std.specs.Prelude.{slice_get}
use Rattle.std.proofs.lemmas.Option.{slice_get_within, get_or_from_slice_get}
use Rattle.std.proofs.lemmas.List.Elements.{All-head, All-drop}
use Rattle.model_rosters.specs.declared.grammar.Grammar.{Grammar}
use Rattle.model_rosters.specs.declared.grammar.Rule.{Rule}
use Rattle.model_rosters.specs.declared.grammar.Sym.{Sym}
use Rattle.model_rosters.specs.Grammar.{rule_at}
use Rattle.model_rosters.specs.Sound.{Exists, IsRule, IsSound}

-- rules are numbered from 1
pub rule_at-within : (g : Grammar) (r : ℕ) (rule : Rule) → rule_at g r ≡ Some rule → (1 ≤ r) × (r ≤ length g.rules)
rule_at-within g zero rule e = cc
rule_at-within g (suc r) rule e = let h = slice_get_within g.rules r rule e in (omega arith, omega (arith, h))

-- the rule at place k has the number k + 1
pub rule_here : (g : Grammar) (k : ℕ) (rule : Rule) → slice_get g.rules k ≡ Some rule → rule_at g (k + 1) ≡ Some rule
rule_here g k rule e = rw add-one e

-- what holds of each item holds of the one at a place
pub All-slice_get : {X : Type 0} (P : X → Type 0) (xs : List X) (k : ℕ) (x : X) → All P xs → slice_get xs k ≡ Some x → P x
All-slice_get P xs k x all at = subst P (get_or_from_slice_get xs k x x at) (all k x (slice_get_within xs k x at))

module _ (g : Grammar) (sound : IsSound g) where
  -- a rule of a sound grammar is sound
  pub sound-rule : (r : ℕ) (rule : Rule) → rule_at g r ≡ Some rule → IsRule (length g.codes) (length g.names) rule
  sound-rule zero rule at = cc
  sound-rule (suc r) rule at = All-slice_get (IsRule (length g.codes) (length g.names)) g.rules r rule sound.rules at

  -- a symbol of a right side exists
  pub sound-symbol : (r k : ℕ) (rule : Rule) (s : Sym) (ss : List Sym) → rule_at g r ≡ Some rule → drop k rule.right ≡ s ∷ ss → Exists (length g.codes) (length g.names) s
  sound-symbol r k rule s ss at e =
      let all = All-drop (Exists (length g.codes) (length g.names)) k rule.right (sound-rule r rule at).symbols in
      All-head (Exists (length g.codes) (length g.names)) s ss (subst (λ xs. All (Exists (length g.codes) (length g.names)) xs) e all)
