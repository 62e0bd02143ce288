-- The rules of a name, one after another.
use Rattle.std.specs.Prelude.{ℕ, ◌≡◌, ◌≢◌, ◌+◌, ◌-◌, ◌<◌, ◌≤◌, List, Some, length, slice_index}
use Rattle.model_rosters.specs.declared.grammar.Grammar.{Grammar}
use Rattle.model_rosters.specs.declared.grammar.Rule.{Rule}
use Rattle.model_rosters.specs.Grammar.{rule_at}
use Rattle.tree_span_cells.specs.declared.chains.Chains.{Chains}

-- m is the name's first rule with a number of n or more, one past the last rule where there is none
pub record IsFirstRule (g : Grammar) (x n m : ℕ) : Type 0 where
  pub low : n ≤ m
  pub high : m ≤ length g.rules + 1
  pub there : (rule : Rule) → rule_at g m ≡ Some rule → rule.left ≡ x
  pub others : (r : ℕ) (rule : Rule) → n ≤ r → r < m → rule_at g r ≡ Some rule → rule.left ≢ x

-- the rules from n on are chained: those of each name from its first, and each to the next of its name
pub record AreChainedFrom (g : Grammar) (first next : List ℕ) (n : ℕ) : Type 0 where
  pub names : length first ≡ length g.names
  pub rules : length next ≡ length g.rules
  pub begins : (x : ℕ) → x < length g.names → IsFirstRule g x n (slice_index first x)
  pub goes : (r : ℕ) (rule : Rule) → n ≤ r → rule_at g r ≡ Some rule
      → IsFirstRule g rule.left (r + 1) (slice_index next (r - 1))

-- all rules are chained
abbrev pub AreChained : Grammar → Chains → Type 0
AreChained g c = AreChainedFrom g c.first.items c.next.items 1
