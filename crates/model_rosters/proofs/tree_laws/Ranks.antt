-- The names of a sound grammar have rules, and their ranks are below the number of names.
use Rattle.std.proofs.Common.{◌≡◌, ℕ, suc, ◌<◌, ◌+◌, List, [], ◌∷◌, Some, refl, subst, length, Bool, true, false, nat_eq}
use Rattle.std.specs.Prelude.{slice_get}
use Rattle.std.proofs.lemmas.Bool.{eqb-true}
use Rattle.model_rosters.specs.declared.grammar.Grammar.{Grammar}
use Rattle.model_rosters.specs.declared.grammar.Rule.{Rule}
use Rattle.model_rosters.specs.Sound.{IsSound, has_rule}
use Rattle.model_rosters.specs.UnitRules.{IsRanked}
use Rattle.model_rosters.proofs.tree_laws.Rules.{rule_here}

-- some rule has the name on its left side
pub rule_of : (rules : List Rule) (x : ℕ) → has_rule rules x ≡ true → (k : ℕ) × (rule : Rule) × (slice_get rules k ≡ Some rule) × (rule.left ≡ x)
rule_of [] x e = cc
rule_of (r ∷ rs) x e = by (nat_eq r.left x) refl (λ k. rule_of rs x k)
  where
    by : (b : Bool) → nat_eq r.left x ≡ b → (has_rule rs x ≡ true → (k : ℕ) × (rule : Rule) × (slice_get rs k ≡ Some rule) × (rule.left ≡ x))
        → (k : ℕ) × (rule : Rule) × (slice_get (r ∷ rs) k ≡ Some rule) × (rule.left ≡ x)
    by true h ih = (0, r, refl, eqb-true r.left x h)
    by false h ih = let k = ih (rw h at e) in (suc k.0, k.1, k.2, k.3)

-- each name of a sound grammar has a rank below the number of names
pub rank-below : (g : Grammar) → IsSound g → (rank : ℕ → ℕ) → IsRanked g rank (length g.names) → (x : ℕ) → x < length g.names
    → rank x < length g.names
rank-below g sound rank ranked x lt =
    let k = rule_of g.rules x (sound.names.ruled x lt) in
    subst (λ (y : ℕ). rank y < length g.names) k.3 (ranked.below (k.0 + 1) k.1 (rule_here g k.0 k.1 k.2))
