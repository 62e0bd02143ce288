-- Prices that agree wherever a tree of the day can ask.
use Rattle.std.specs.Prelude.{ℕ, ◌≡◌, ◌≤◌, ◌<◌, Some, length}
use Rattle.model_rosters.specs.declared.grammar.ArcKey.{ArcKey}
use Rattle.model_rosters.specs.declared.grammar.Grammar.{Grammar}
use Rattle.model_rosters.specs.declared.grammar.Rule.{Rule}
use Rattle.model_rosters.specs.Grammar.{rule_at}
use Rattle.model_rosters.specs.Sums.{PriceView}

-- at the letters of existing codes in the day, at all arcs and at existing rules
pub record Agree (g : Grammar) (p q : PriceView) : Type 0 where
  pub letters : (c i : ℕ) → c < length g.codes → 1 ≤ i → i ≤ g.periods → p.letter_at c i ≡ q.letter_at c i
  pub arcs : (a : ArcKey) → p.arc_of a ≡ q.arc_of a
  pub rules : (r : ℕ) (rule : Rule) → rule_at g r ≡ Some rule → p.rule_of r ≡ q.rule_of r
