-- The shape of an arc.
use Rattle.std.specs.Prelude.{◌≡◌, ◌+◌, ◌<◌, ◌≤◌, Some, length}
use Rattle.model_rosters.specs.declared.grammar.ArcKey.{ArcKey}
use Rattle.model_rosters.specs.declared.grammar.Grammar.{Grammar}
use Rattle.model_rosters.specs.declared.grammar.Rule.{Rule}
use Rattle.model_rosters.specs.Grammar.{rule_at, InDay}

-- a rule and one of its symbols, a span of the day, and a first part of it, shorter than the span where
-- other symbols follow
pub record IsSplit (g : Grammar) (a : ArcKey) : Type 0 where
  pub rule : Rule
  pub at : rule_at g a.rule ≡ Some rule
  pub symbol : a.suffix < length rule.right
  pub day : InDay g.periods a.start a.len
  pub some : 1 ≤ a.part
  pub inside : a.part ≤ a.len
  pub others : a.suffix + 2 ≤ length rule.right → a.part < a.len

-- a suffix of a rule on a span of the day with a first part: a part of the span where symbols follow,
-- and else the whole of it, and the suffix the whole right side
pub record IsShaped (g : Grammar) (a : ArcKey) : Type 0 where
  pub rule : Rule
  pub at : rule_at g a.rule ≡ Some rule
  pub symbol : a.suffix < length rule.right
  pub day : InDay g.periods a.start a.len
  pub some : 1 ≤ a.part
  pub inside : a.part ≤ a.len
  pub others : a.suffix + 2 ≤ length rule.right → a.part < a.len
  pub last : a.suffix + 1 ≡ length rule.right → (a.suffix ≡ 0) × (a.part ≡ a.len)
