-- The prices are small.
use Rattle.std.proofs.Common.{◌≤◌, ◌^◌, ◌-◌, ℕ, ℤ, pos, Bool, true, false, Option, None, Some, IfSome, List, ◌==◌, if◌then◌else◌, arith}
use Rattle.std.specs.Prelude.{slice_get}
use Rattle.std.proofs.lemmas.Int.{ints}
use Rattle.std.proofs.Math.Nat.{pow-le-pow_right}
use Rattle.model_rosters.specs.declared.grammar.CodeDef.{CodeDef}
use Rattle.model_rosters.specs.declared.grammar.Grammar.{Grammar}
use Rattle.model_rosters.specs.Arcs.{rule_cost}
use Rattle.model_rosters.specs.Sums.{AllWithin, Within}
use Rattle.tree_questions.specs.Prices.{byte_view, code_price, cost_view, pattern_view, free_where, takes, at_period, miss, miss_view}

natural : (n : ℕ) → n ≤ 2 ^ 96 → Within (2 ^ 96) (pos n)
natural n h = record { low = omega (arith, ints, h); high = omega (arith, ints, h) }

pub byte-small : (g : Grammar) (price : ℕ → ℕ → Option ℤ) (rules : ℕ → ℕ)
    → ((i b : ℕ) → IfSome (price i b) (Within (2 ^ 96))) → ((r : ℕ) → rules r ≤ 10000)
    → AllWithin (2 ^ 96) (byte_view g price rules)
byte-small g price rules bytes few = record {
  letters = λ c i. by (slice_get g.codes c) i;
  arcs = λ a. natural 0 (omega arith);
  rules = λ r. natural (rules r) (omega (arith, few r));
}
  where
    by : (o : Option CodeDef) (i : ℕ) → IfSome (code_price price o i) (Within (2 ^ 96))
    by None i = tt
    by (Some d) i = bytes i d.byte

pub cost-small : (g : Grammar) → ((r : ℕ) → rule_cost g r ≤ 10000) → AllWithin (2 ^ 96) (cost_view g)
cost-small g few = byte-small g (λ i b. Some (pos 0)) (rule_cost g) (λ i b. natural 0 (omega arith)) few

pub pattern-small : (g : Grammar) (any : Option ℕ) (pattern : List ℕ) → ((r : ℕ) → rule_cost g r ≤ 10000)
    → AllWithin (2 ^ 96) (pattern_view g any pattern)
pattern-small g any pattern few =
    byte-small g (λ i b. free_where (takes any (at_period pattern i) b)) (rule_cost g)
    (λ i b. by (takes any (at_period pattern i) b)) few
  where
    by : (t : Bool) → IfSome (free_where t) (Within (2 ^ 96))
    by true = natural 0 (omega arith)
    by false = tt

pub miss-small : (g : Grammar) (prefix : List ℕ) → g.periods ≤ 96 → AllWithin (2 ^ 96) (miss_view g prefix)
miss-small g prefix few =
    byte-small g (λ i b. Some (pos (miss (at_period prefix i) b (g.periods - i)))) (λ r. 0)
    (λ i b. natural (miss (at_period prefix i) b (g.periods - i))
    (by (at_period prefix i) b (g.periods - i) (omega (arith, few))))
    (λ r. omega arith)
  where
    power : (k : ℕ) → k ≤ 96 → ◌≤◌ (2 ^ k) (2 ^ 96)
    power k h = pow-le-pow_right (omega arith) h

    pick : (t : Bool) (k : ℕ) → k ≤ 96 → ◌≤◌ (if t then 0 else 2 ^ k) (2 ^ 96)
    pick true k h = omega arith
    pick false k h = power k h

    by : (o : Option ℕ) (b k : ℕ) → k ≤ 96 → miss o b k ≤ 2 ^ 96
    by None b k h = omega arith
    by (Some x) b k h = pick (x == b) k h
