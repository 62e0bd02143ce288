-- The cuts with which each path begins are ones that a master takes.
use Rattle.std.proofs.Common.{◌≡◌, ℕ, arith, ◌+◌, ◌-◌, ◌≤◌, ◌<◌, Bool, true, false, cond, All, List, [], ◌∷◌, ◌++◌, length, map, length-append, refl, ap, sym, subst, inr}
use Rattle.std.specs.Prelude.{nat_lt}
use Rattle.std.proofs.lemmas.Bool.Decides.{nat_tests}
use Rattle.std.proofs.lemmas.List.{length-map}
use Rattle.std.proofs.lemmas.List.Elements.{All-head, All-tail}
use Rattle.model_rosters.specs.declared.grammar.Grammar.{Grammar}
use Rattle.model_rosters.specs.declared.instance.Cut.{Cut}
use Rattle.model_rosters.specs.declared.instance.Group.{Group}
use Rattle.model_rosters.specs.declared.instance.Instance.{Instance}
use Rattle.model_rosters.specs.declared.instance.Side.TheVariants.{Low, High}
use Rattle.model_rosters.specs.Cuts.{group_arc, group_cuts, cuts_from, base_cuts}
use Rattle.model_rosters.specs.Extension.{group_rule}
use Rattle.model_rosters.specs.Folds.{sum_n, Each}
use Rattle.model_rosters.specs.SoundInstance.{IsSoundInstance, IsGroup, HasGroups}
use Rattle.model_rosters.proofs.EachLemmas.{Each-append}
use Rattle.search_masters.specs.Ends.{IsNodeCut}

-- a group has at most 64 employees
abbrev IsFew : Group → Type 0
IsFew g = g.heads_min ≤ 64

module _ (i : Instance) (few : i.heads_max ≤ 64) where
  group-cuts : (r : ℕ) (g : Group) → length i.grammar.rules - length i.groups < r → r ≤ length i.grammar.rules → IsFew g
      → Each (IsNodeCut i) (group_cuts i r g)
  group-cuts r g above within least = Each-append (IsNodeCut i) (cond (nat_lt g.heads_max i.heads_max) (low ∷ []) [])
      (cond (nat_lt 0 g.heads_min) (high ∷ []) []) (lows (nat_lt g.heads_max i.heads_max) refl) (highs (nat_lt 0 g.heads_min))
    where
      low : Cut
      low = record { arc = group_arc i.grammar.periods r; side = Low; b = g.heads_max }

      high : Cut
      high = record { arc = group_arc i.grammar.periods r; side = High; b = g.heads_min - 1 }

      less : (m n : ℕ) → nat_lt m n ≡ true → m < n
      less m n e = grind (arith, nat_tests)

      lows : (b : Bool) → nat_lt g.heads_max i.heads_max ≡ b → Each (IsNodeCut i) (cond b (low ∷ []) [])
      lows true e = let lt = less g.heads_max i.heads_max e in
          (record { arc = inr (r, above, within, refl); few = omega (arith, lt, few) }, tt)
      lows false e = tt

      highs : (b : Bool) → Each (IsNodeCut i) (cond b (high ∷ []) [])
      highs true = (record { arc = inr (r, above, within, refl); few = omega (arith, least) }, tt)
      highs false = tt

  from-cuts : (r : ℕ) (gs : List Group) → length i.grammar.rules - length i.groups < r → r + length gs ≤ length i.grammar.rules + 1
      → Each IsFew gs → Each (IsNodeCut i) (cuts_from i r gs)
  from-cuts r [] above within few-2 = tt
  from-cuts r (g ∷ gs) above within few-2 = Each-append (IsNodeCut i) (group_cuts i r g) (cuts_from i (r + 1) gs)
      (group-cuts r g above (omega (arith, within)) few-2.0) (from-cuts (r + 1) gs (omega (arith, above)) (omega (arith, within)) few-2.1)

-- each group's least number is at most the sum of the greatest ones
few-of : (names : ℕ) (gs : List Group) → All (IsGroup names) gs → sum_n (λ (g : Group). g.heads_max) gs ≤ 64 → Each IsFew gs
few-of names [] all le = tt
few-of names (g ∷ gs) all le =
    let order = (All-head (IsGroup names) g gs all).order in
    (omega (arith, le, order), few-of names gs (All-tail (IsGroup names) g gs all) (omega (arith, le)))

base-cuts : (i : Instance) → IsSoundInstance i → Each (IsNodeCut i) (base_cuts i)
base-cuts i sound = by i.groups refl sound.groups
  where
    by : (gs : List Group) → i.groups ≡ gs → HasGroups i gs → Each (IsNodeCut i) (base_cuts i)
    by [] e h = let base : base_cuts i ≡ [] = rw e refl in subst (λ (cs : List Cut). Each (IsNodeCut i) cs) (sym base) tt
    by (g ∷ gs) e h =
        let few = sound.few in
        let ranges = few-of (length h.0.names) i.groups h.1.groups.each (omega (arith, few, h.1.most)) in
        let rules : length i.grammar.rules ≡ length (h.0.rules ++ map (group_rule (length h.0.names)) i.groups) = ap (λ (x : Grammar). length x.rules) h.1.grammar in
        let sum = length-append h.0.rules (map (group_rule (length h.0.names)) i.groups) in
        let same = length-map i.groups (group_rule (length h.0.names)) in
        let enough : length i.groups ≤ length i.grammar.rules = omega (arith, rules, sum, same) in
        from-cuts i few (length i.grammar.rules - length i.groups + 1) i.groups (omega arith) (omega (arith, enough)) ranges

-- the base cuts behind none
pub root_cuts : (i : Instance) → IsSoundInstance i → (before cuts : List Cut) → before ≡ [] → cuts ≡ before ++ base_cuts i
    → Each (IsNodeCut i) cuts
root_cuts i sound before cuts none is = subst (λ (cs : List Cut). Each (IsNodeCut i) cs) (sym (rw none at is)) (base-cuts i sound)
