-- Rules and the spans on which they stand.
use Rattle.std.specs.Prelude.{ℕ, ◌-◌, ◌≤◌, ◌+◌, Option, None, slice_get, zero, suc}
use Rattle.model_rosters.specs.declared.grammar.Grammar.{Grammar}
use Rattle.model_rosters.specs.declared.grammar.Rule.{Rule}
use Rattle.model_rosters.specs.declared.grammar.Window.{Window}

-- rule number r, counted from 1
abbrev pub rule_at : Grammar → ℕ → Option Rule
rule_at g zero = None
rule_at g (suc r) = slice_get g.rules r

-- a window contains both its ends
abbrev pub IsInWindow : Window → ℕ → Type 0
IsInWindow w n = (w.lo ≤ n) × (n ≤ w.hi)

-- a rule stands on a span of the day whose length, first and last period its windows contain
pub record Stands (periods : ℕ) (rule : Rule) (start len : ℕ) : Type 0 where
  pub within : start + len ≤ periods + 1
  pub span : IsInWindow rule.span len
  pub first : IsInWindow rule.first start
  pub last : IsInWindow rule.last (start + len - 1)

-- a span of the day
pub record InDay (periods start len : ℕ) : Type 0 where
  pub begins : 1 ≤ start
  pub some : 1 ≤ len
  pub within : start + len ≤ periods + 1
