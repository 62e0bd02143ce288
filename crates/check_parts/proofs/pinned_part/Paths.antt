-- The bounds that the cuts of a path leave, cut by cut.
use Rattle.std.proofs.Common.{◌≡◌, ℕ, zero, suc, arith, ◌*◌, ◌≤◌, ◌<◌, Bool, true, false, cond, List, [], ◌∷◌, length, drop, get_or, refl, ap, sym, max, All, Option, None, Some, subst}
use Rattle.std.proofs.Math.Seq.{drop-cons}
use Rattle.model_rosters.specs.declared.grammar.ArcKey.{ArcKey}
use Rattle.model_rosters.specs.declared.instance.Cut.{Cut}
use Rattle.model_rosters.specs.declared.instance.Side.{Side}
use Rattle.model_rosters.specs.declared.instance.Side.TheVariants.{Low, High}
use Rattle.std.proofs.lemmas.List.Elements.{All-head, All-tail}
use Rattle.std.proofs.lemmas.Nat.{mul-le}
use Rattle.model_rosters.specs.declared.grammar.Grammar.{Grammar}
use Rattle.model_rosters.specs.declared.grammar.Rule.{Rule}
use Rattle.model_rosters.specs.Arcs.{same_arc, rule_cost}
use Rattle.model_rosters.specs.Folds.{sum_n}
use Rattle.model_rosters.specs.Grammar.{rule_at}
use Rattle.model_rosters.specs.Sound.{IsSound}
use Rattle.model_rosters.proofs.tree_laws.Rules.{sound-rule}
use Rattle.model_rosters.specs.arc_laws.Counts.{top_cost, cost_at}
use Rattle.model_rosters.specs.Cuts.{lo, hi, at_least, at_most}
use Rattle.model_rosters.specs.Limits.{IsSmallCut}

-- the next cut and those after it
pub lo_next : (cuts : List Cut) (a : ArcKey) (k : ℕ) (d : Cut) → k < length cuts → lo (drop k cuts) a ≡ max (cond (same_arc (get_or cuts k d).arc a) (at_least (get_or cuts k d).side (get_or cuts k d).b) 0) (lo (drop (suc k) cuts) a)
lo_next cuts a k d lt = ap (λ (cs : List Cut). lo cs a) (drop-cons cuts k d lt)

pub hi_next : (most : ℕ) (cuts : List Cut) (a : ArcKey) (k : ℕ) (d : Cut) → k < length cuts
    → hi most (drop k cuts) a ≡ cond (same_arc (get_or cuts k d).arc a) (at_most (get_or cuts k d).side (get_or cuts k d).b (hi most (drop (suc k) cuts) a)) (hi most (drop (suc k) cuts) a)
hi_next most cuts a k d lt = ap (λ (cs : List Cut). hi most cs a) (drop-cons cuts k d lt)

-- no bound is above the greatest count
pub hi_most : (most : ℕ) (cuts : List Cut) (a : ArcKey) → hi most cuts a ≤ most
hi_most most [] a = omega arith
hi_most most (c ∷ cs) a = by (same_arc c.arc a) c.side (hi_most most cs a)
  where
    by : (b : Bool) (s : Side) → hi most cs a ≤ most → cond b (at_most s c.b (hi most cs a)) (hi most cs a) ≤ most
    by true Low h = grind arith
    by true High h = h
    by false s h = h

-- the least counts that small cuts leave are small
pub lo_small : (cuts : List Cut) → All IsSmallCut cuts → (a : ArcKey) → lo cuts a ≤ 64
lo_small [] h a = omega arith
lo_small (c ∷ cs) h a = by (same_arc c.arc a) c.side (All-head IsSmallCut c cs h) (lo_small cs (All-tail IsSmallCut c cs h) a)
  where
    by : (b : Bool) (s : Side) → c.b ≤ 63 → lo cs a ≤ 64 → max (cond b (at_least s c.b) 0) (lo cs a) ≤ 64
    by true Low k h = grind arith
    by true High k h = grind arith
    by false s k h = grind arith

rule_cost-small : (g : Grammar) → IsSound g → (r : ℕ) → rule_cost g r ≤ 10000
rule_cost-small g sound r = by (rule_at g r) refl
  where
    by : (o : Option Rule) → rule_at g r ≡ o → rule_cost g r ≤ 10000
    by None e = subst (λ (o : Option Rule). elim o as (λ v. ℕ) [ None ↦ 0 | Some q ↦ q.cost ] ≤ 10000) (sym e) (omega arith)
    by (Some rule) e = subst (λ (o : Option Rule). elim o as (λ v. ℕ) [ None ↦ 0 | Some q ↦ q.cost ] ≤ 10000) (sym e) (sound-rule g sound r rule e).cost

top_cost-small : (g : Grammar) → IsSound g → (a : ArcKey) → top_cost g a ≤ 10000
top_cost-small g sound a = by a.suffix
  where
    by : (k : ℕ) → cost_at g a.rule k ≤ 10000
    by zero = rule_cost-small g sound a.rule
    by (suc k) = omega arith

-- and so is what they cost
pub paid-small : (g : Grammar) → IsSound g → (cuts : List Cut) → All IsSmallCut cuts → (listed : List ArcKey) → sum_n (λ a. lo cuts a * top_cost g a) listed ≤ 640000 * length listed
paid-small g sound cuts small [] = omega arith
paid-small g sound cuts small (a ∷ listed) =
    let m = mul-le (lo cuts a) (top_cost g a) 64 10000 (lo_small cuts small a) (top_cost-small g sound a) in
    omega (arith, m, paid-small g sound cuts small listed)
