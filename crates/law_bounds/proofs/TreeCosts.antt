-- No roster of trees costs more than the greatest cost.
use Rattle.std.proofs.Common.{◌≡◌, ℕ, zero, suc, arith, ◌+◌, ◌-◌, ◌*◌, ◌≤◌, max, Option, None, Some, List, [], ◌∷◌, ◌++◌, length, refl, ap, ◌⊎◌, inl, inr}
use Rattle.std.specs.Prelude.{slice_get}
use Rattle.std.proofs.Math.Nat.{mul-le-mul_left, mul-le-mul_right}
use Rattle.model_rosters.specs.declared.grammar.Grammar.{Grammar}
use Rattle.model_rosters.specs.declared.grammar.Rule.{Rule}
use Rattle.model_rosters.specs.declared.grammar.Sym.TheVariants.{Name}
use Rattle.model_rosters.specs.declared.instance.Cell.{Cell}
use Rattle.model_rosters.specs.declared.instance.Instance.{Instance}
use Rattle.model_rosters.specs.Trees.{Parts, done, letter, uses, span_length, Derive, IsDayTree}
use Rattle.model_rosters.specs.Folds.{sum_n, Each}
use Rattle.model_rosters.specs.Arcs.{used_rules, rule_cost, cost}
use Rattle.model_rosters.specs.Coverage.{penalty}
use Rattle.model_rosters.specs.GreatestCost.{greatest_rule_cost, greatest_penalty, greatest_cost}
use Rattle.model_rosters.specs.Room.{most_uses}
use Rattle.model_rosters.specs.UnitRules.{IsRanked}
use Rattle.model_rosters.specs.tree_laws.Parts.{use_count}
use Rattle.model_rosters.proofs.tree_laws.Size.{few_uses}
use Rattle.law_bounds.specs.TreeRosters.{tree_cover, IsCovered, IsTreeRoster, trees_cost}

listed_cost : (rs : List Rule) (r : ℕ) (rule : Rule) → slice_get rs r ≡ Some rule → rule.cost ≤ greatest_rule_cost rs
listed_cost [] r rule h = cc
listed_cost (q ∷ rs) zero rule h = let e : q ≡ rule = cc in let f = ap (λ (x : Rule). x.cost) e in omega arith
listed_cost (q ∷ rs) (suc r) rule h = omega (arith, listed_cost rs r rule h)

rule_cost-le : (g : Grammar) (r : ℕ) → rule_cost g r ≤ greatest_rule_cost g.rules
rule_cost-le g zero = omega arith
rule_cost-le g (suc r) = pick (slice_get g.rules r) refl
  where
    pick : (o : Option Rule) → slice_get g.rules r ≡ o → (elim o as (λ (v : Option Rule). ℕ) [ None ↦ 0 | Some rule ↦ rule.cost ]) ≤ greatest_rule_cost g.rules
    pick None e = omega arith
    pick (Some rule) e = listed_cost g.rules r rule e

uses_cost-le : (f : ℕ → ℕ) (w : ℕ) → ((r : ℕ) → f r ≤ w) → (rs : List ℕ) → sum_n f rs ≤ length rs * w
uses_cost-le f w h [] = omega arith
uses_cost-le f w h (r ∷ rs) = omega (arith, h r, uses_cost-le f w h rs)

length-used : (t : Parts) → length (used_rules t) ≡ use_count t
length-used done = refl
length-used (letter c rest) = length-used rest
length-used (uses r n inner rest) = omega (arith, length_both (used_rules inner) (used_rules rest), length-used inner, length-used rest)
  where
    length_both : (xs ys : List ℕ) → length (xs ++ ys) ≡ length xs + length ys
    length_both [] ys = omega arith
    length_both (x ∷ xs) ys = omega (arith, length_both xs ys)

few_times : (u n names : ℕ) → u + names ≤ 2 * (n * names) → u ≤ (2 * n - 1) * names
few_times u zero names h = omega arith
few_times u (suc n) names h = let e : 2 * suc n - 1 ≡ 2 * n + 1 = omega arith in rw e (omega arith)

penalty-le : (c : Cell) (n most : ℕ) → n ≤ most → penalty c n ≤ max (c.under * c.need) (c.over * most)
penalty-le c n most h = pick (split n c.need)
  where
    split : (a b : ℕ) → (a ≤ b) ⊎ (b ≤ a)
    split a b = grind arith

    pick : (n ≤ c.need) ⊎ (c.need ≤ n) → penalty c n ≤ max (c.under * c.need) (c.over * most)
    pick (inl k) =
        let e : n - c.need ≡ 0 = omega arith in
        let less : c.need - n ≤ c.need = omega arith in
        rw e (omega (arith, mul-le-mul_left c.under less))
    pick (inr k) =
        let e : c.need - n ≡ 0 = omega arith in
        let less : n - c.need ≤ most = omega arith in
        rw e (omega (arith, mul-le-mul_left c.over less))

module _ (i : Instance) (rank : ℕ → ℕ) (ranked : IsRanked i.grammar rank (length i.grammar.names)) where
  abbrev most_of_tree : ℕ
  most_of_tree = most_uses i.grammar * greatest_rule_cost i.grammar.rules

  pub cost-le : (t : Parts) (x : ℕ) → Derive i.grammar (Name x ∷ []) 1 t → span_length t ≡ i.grammar.periods → cost i.grammar t ≤ most_of_tree
  cost-le t x d e =
      let few = few_uses i.grammar rank (length i.grammar.names) ranked t x 1 d in
      let few' : use_count t + length i.grammar.names ≤ 2 * (i.grammar.periods * length i.grammar.names) = rw (← e) few in
      let times = few_times (use_count t) i.grammar.periods (length i.grammar.names) few' in
      let all = uses_cost-le (rule_cost i.grammar) (greatest_rule_cost i.grammar.rules) (rule_cost-le i.grammar) (used_rules t) in
      let len = length-used t in
      let times' : length (used_rules t) ≤ (2 * i.grammar.periods - 1) * length i.grammar.names = omega arith in
      let more = mul-le-mul_right (greatest_rule_cost i.grammar.rules) times' in
      omega arith

  costs-le : (ts : List Parts) → Each (IsDayTree i.grammar) ts → sum_n (cost i.grammar) ts ≤ length ts * most_of_tree
  costs-le [] h = omega arith
  costs-le (t ∷ ts) h = omega (arith, cost-le t i.grammar.start h.0.0 h.0.1, costs-le ts h.1)

  penalties-le : (ts : List Parts) (cs : List Cell) → Each (IsCovered i ts) cs → sum_n (λ c. penalty c (tree_cover ts c)) cs ≤ sum_n (greatest_penalty i.heads_max) cs
  penalties-le ts [] h = omega arith
  penalties-le ts (c ∷ cs) h = let less = penalty-le c (tree_cover ts c) i.heads_max h.0.heads in omega (arith, penalties-le ts cs h.1)

  pub trees_cost-le : (ts : List Parts) → IsTreeRoster i ts → trees_cost i ts ≤ greatest_cost i
  trees_cost-le ts roster =
      let a = costs-le ts roster.day in
      let b = mul-le-mul_right most_of_tree roster.few in
      omega (arith, penalties-le ts i.cells roster.coverage)
