-- How large the greatest cost and the rounding loss of a sound instance are.
use Rattle.std.proofs.Common.{◌≡◌, ℕ, ◌+◌, ◌-◌, ◌*◌, ◌≤◌, List, [], ◌∷◌, length, arith, All}
use Rattle.std.proofs.lemmas.Nat.{mul-le}
use Rattle.std.proofs.Math.Nat.{max-le}
use Rattle.std.proofs.lemmas.List.Elements.{All-head, All-tail}
use Rattle.model_rosters.specs.declared.grammar.Grammar.{Grammar}
use Rattle.model_rosters.specs.declared.grammar.Rule.{Rule}
use Rattle.model_rosters.specs.declared.instance.Instance.{Instance}
use Rattle.model_rosters.specs.GreatestCost.{greatest_rule_cost}
use Rattle.model_rosters.specs.Room.{most_uses}
use Rattle.model_rosters.specs.RoundingLoss.{rounding_loss}
use Rattle.model_rosters.specs.Sound.{IsRule, IsSound}
use Rattle.model_rosters.specs.SoundInstance.{IsSoundInstance}
use Rattle.model_rosters.proofs.SoundCells.{few_cells}
use Rattle.model_rosters.specs.declared.instance.Cell.{Cell}
use Rattle.model_rosters.specs.Coverage.{penalty}
use Rattle.model_rosters.specs.Limits.{IsLimitedCell}

pub rule_cost-le : (codes names : ℕ) (rules : List Rule) → All (IsRule codes names) rules → greatest_rule_cost rules ≤ 10000
rule_cost-le codes names [] h = omega arith
rule_cost-le codes names (r ∷ rs) h =
    let first = All-head (IsRule codes names) r rs h in
    max-le first.cost (rule_cost-le codes names rs (All-tail (IsRule codes names) r rs h))

pub uses-le : (g : Grammar) → IsSound g → most_uses g ≤ 6303
uses-le g s = mul-le (2 * g.periods - 1) (length g.names) 191 33 (omega (arith, s.few_periods)) s.names.few

module _ (i : Instance) (s : IsSoundInstance i) where
  pub shifts-le : i.heads_max * (most_uses i.grammar * greatest_rule_cost i.grammar.rules) ≤ 4033920000
  shifts-le =
      mul-le i.heads_max (most_uses i.grammar * greatest_rule_cost i.grammar.rules) 64 63030000 s.few
      (mul-le (most_uses i.grammar) (greatest_rule_cost i.grammar.rules) 6303 10000 (uses-le i.grammar s.grammar) (rule_cost-le _ _ i.grammar.rules s.grammar.rules))

  pub cells-le : length i.cells ≤ 768
  cells-le = few_cells i.grammar i.cells s.grammar.codes s.grammar.few_periods s.cells

  pub loss-le : (cuts : ℕ) → cuts ≤ 1500 → rounding_loss i cuts ≤ 247296
  loss-le cuts few =
      mul-le i.heads_max (i.grammar.periods + 2 * cuts + length i.cells) 64 3864 s.few (omega (arith, cells-le, s.grammar.few_periods, few))

  pub shifts-within : (h p n w : ℕ) → h ≡ i.heads_max → p ≡ i.grammar.periods → n ≡ length i.grammar.names → w ≡ greatest_rule_cost i.grammar.rules
      → h * (((2 * p) - 1) * n * w) ≤ 4033920000
  shifts-within h p n w a b c d = rw (a, b, c, d) shifts-le

  pub loss-within : (h p k n : ℕ) → h ≡ i.heads_max → p ≡ i.grammar.periods → k ≤ 1500 → n ≡ length i.cells → h * (p + 2 * k + n) ≤ 247296
  loss-within h p k n a b few d = rw (a, b, d) (loss-le k few)

pub penalty_le : (c : Cell) (n : ℕ) → n ≤ 64 → IsLimitedCell c → penalty c n ≤ 1280000
penalty_le c n h l =
    let a = mul-le c.under (c.need - n) 10000 64 l.under (omega (arith, l.need)) in
    let b = mul-le c.over (n - c.need) 10000 64 l.over (omega arith) in
    omega (arith, a, b)
