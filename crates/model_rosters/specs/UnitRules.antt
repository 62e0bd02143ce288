-- One-symbol rules, which lead from a name to a name on the same span.
use Rattle.std.specs.Prelude.{ℕ, ◌≡◌, ◌<◌, [], ◌∷◌, Some}
use Rattle.model_rosters.specs.declared.grammar.Grammar.{Grammar}
use Rattle.model_rosters.specs.declared.grammar.Rule.{Rule}
use Rattle.model_rosters.specs.declared.grammar.Sym.TheVariants.{Name}
use Rattle.model_rosters.specs.Grammar.{rule_at}

-- a rule leads from x to y
pub record LeadsBy (g : Grammar) (r x y : ℕ) : Type 0 where
  pub rule : Rule
  pub at : rule_at g r ≡ Some rule
  pub left : rule.left ≡ x
  pub right : rule.right ≡ Name y ∷ []

-- one-symbol rules lead from x to y, in one step or in more
pub data Leads (g : Grammar) (x : ℕ) : ℕ → Type 0 where
  once : (r y : ℕ) → LeadsBy g r x y → Leads g x y
  again : (r y z : ℕ) → Leads g x y → LeadsBy g r y z → Leads g x z

-- one-symbol rules lead from x back to x
abbrev pub IsOnCycle : Grammar → ℕ → Type 0
IsOnCycle g x = Leads g x x

-- the first name on a cycle
pub record IsFirstOnCycle (g : Grammar) (x : ℕ) : Type 0 where
  pub within : IsOnCycle g x
  pub first : (y : ℕ) → y < x → IsOnCycle g y → ⊥

-- a rank of the names, below their number, that each one-symbol rule raises
pub record IsRanked (g : Grammar) (rank : ℕ → ℕ) (names : ℕ) : Type 0 where
  pub below : (r : ℕ) (rule : Rule) → rule_at g r ≡ Some rule → rank rule.left < names
  pub rises : (r : ℕ) (rule : Rule) (y : ℕ) → rule_at g r ≡ Some rule → rule.right ≡ Name y ∷ []
      → rank rule.left < rank y
