-- The cuts on the way to a node are ones that a master takes.
use Rattle.std.proofs.Common.{◌≡◌, ℕ, arith, ◌+◌, ◌-◌, ◌*◌, ◌≤◌, ◌<◌, Bool, true, false, cond, List, [], ◌∷◌, ◌++◌, length, map, length-append, refl, ap, sym, subst, ◌∙◌, inl, inr}
use Rattle.std.specs.Prelude.{nat_lt}
use mathlib.Core.List.{append_assoc, append-nil}
use Rattle.std.proofs.lemmas.Bool.Decides.{nat_tests}
use Rattle.std.proofs.lemmas.List.{length-map}
use Rattle.model_rosters.specs.declared.grammar.ArcKey.{ArcKey}
use Rattle.model_rosters.specs.declared.grammar.Grammar.{Grammar}
use Rattle.model_rosters.specs.Extension.{group_rule}
use Rattle.model_rosters.specs.declared.instance.Cut.{Cut}
use Rattle.model_rosters.specs.declared.instance.Group.{Group}
use Rattle.model_rosters.specs.declared.instance.Instance.{Instance}
use Rattle.model_rosters.specs.declared.instance.Side.{Side}
use Rattle.model_rosters.specs.declared.instance.Side.TheVariants.{Low, High}
use Rattle.model_rosters.specs.Cuts.{hi, at_most, group_arc, group_cuts, group_cut_count, cuts_from, base_cuts}
use Rattle.model_rosters.proofs.CutCounts.{base_length}
use Rattle.model_rosters.specs.Arcs.{same_arc}
use Rattle.model_rosters.specs.Folds.{sum_n, Each}
use Rattle.model_rosters.specs.SoundInstance.{IsSoundInstance, HasGroups}
use Rattle.model_rosters.proofs.EachLemmas.{Each-append}
use Rattle.law_bounds.proofs.BaseCuts.{IsRange, ranges}
use Rattle.check_certificates.specs.Nodes.{low_cut, high_cut}
use Rattle.law_bounds.specs.master_laws.Laws.{IsBelowHeads}
use Rattle.search_masters.specs.Ends.{IsNodeCut}
use Rattle.check_certificates.specs.growing_laws.Grown.{Grown, tip, fork, OnForks}
use Rattle.check_certificates.specs.growing_laws.Seats.{StandsAt}
use Rattle.check_certificates.specs.growing_laws.States.{IsSplitAt}

-- a cut that a master takes, below the number of heads
pub record IsGoodCut (i : Instance) (c : Cut) : Type 0 where
  pub node : IsNodeCut i c
  pub below : IsBelowHeads i c

pub hi-most : (most : ℕ) (cuts : List Cut) (a : ArcKey) → hi most cuts a ≤ most
hi-most most [] a = omega arith
hi-most most (c ∷ cs) a = by (same_arc c.arc a) c.side (hi-most most cs a)
  where
    by : (b : Bool) (s : Side) → hi most cs a ≤ most → cond b (at_most s c.b (hi most cs a)) (hi most cs a) ≤ most
    by true Low h = omega (arith, h)
    by true High h = h
    by false s h = h

-- the cuts of a split on an arc
split-cuts : (i : Instance) → IsSoundInstance i → (path : List Cut) (a : ArcKey) (b : ℕ) → IsSplitAt i path a b
    → IsGoodCut i (low_cut a b) × IsGoodCut i (high_cut a b)
split-cuts i sound path a b is =
    let h = hi-most i.heads_max path a in
    let below : b < i.heads_max = omega (arith, h, is.high) in
    let few : b ≤ 63 = omega (arith, below, sound.few) in (
      record { node = record { arc = inl is.arc; few = few }; below = below },
      record { node = record { arc = inl is.arc; few = few }; below = below },
    )

-- a node's path: the base cuts, and cuts of splits
pub path-cuts : (i : Instance) → IsSoundInstance i → (cuts : List Cut) (t : Grown) (n : ℕ) (path : List Cut)
    → Each (IsGoodCut i) cuts → OnForks (λ q a b own. IsSplitAt i q a b) cuts t → StandsAt cuts t n path
    → Each (IsGoodCut i) path
path-cuts i sound cuts (tip k l) n path good forks at = subst (λ (p : List Cut). Each (IsGoodCut i) p) at.1 good
path-cuts i sound cuts (fork k a b own low high) n path good forks (inl at) = subst (λ (p : List Cut). Each (IsGoodCut i) p) at.1 good
path-cuts i sound cuts (fork k a b own low high) n path good forks (inr (inl at)) =
    path-cuts i sound (cuts ++ low_cut a b ∷ []) low n path
    (Each-append (IsGoodCut i) cuts (low_cut a b ∷ []) good ((split-cuts i sound cuts a b forks.0).0, tt)) forks.1 at
path-cuts i sound cuts (fork k a b own low high) n path good forks (inr (inr at)) =
    path-cuts i sound (cuts ++ high_cut a b ∷ []) high n path
    (Each-append (IsGoodCut i) cuts (high_cut a b ∷ []) good ((split-cuts i sound cuts a b forks.0).1, tt)) forks.2 at

pub path-based : (cuts : List Cut) (t : Grown) (n : ℕ) (path : List Cut) → StandsAt cuts t n path
    → (more : List Cut) × (path ≡ cuts ++ more)
path-based cuts (tip k l) n path at = ([], sym at.1 ∙ sym (append-nil cuts))
path-based cuts (fork k a b own low high) n path (inl at) = ([], sym at.1 ∙ sym (append-nil cuts))
path-based cuts (fork k a b own low high) n path (inr (inl at)) =
    let p = path-based (cuts ++ low_cut a b ∷ []) low n path at in
    (low_cut a b ∷ p.0, p.1 ∙ append_assoc cuts (low_cut a b ∷ []) p.0)
path-based cuts (fork k a b own low high) n path (inr (inr at)) =
    let p = path-based (cuts ++ high_cut a b ∷ []) high n path at in
    (high_cut a b ∷ p.0, p.1 ∙ append_assoc cuts (high_cut a b ∷ []) p.0)

module _ (i : Instance) (few : i.heads_max ≤ 64) where
  group-good : (r : ℕ) (g : Group) → length i.grammar.rules - length i.groups < r → r ≤ length i.grammar.rules → IsRange i.heads_max g
      → Each (IsGoodCut i) (group_cuts i r g)
  group-good r g above within range = Each-append (IsGoodCut i) (cond (nat_lt g.heads_max i.heads_max) (low ∷ []) [])
      (cond (nat_lt 0 g.heads_min) (high ∷ []) []) (lows (nat_lt g.heads_max i.heads_max) refl) (highs (nat_lt 0 g.heads_min) refl)
    where
      low : Cut
      low = record { arc = group_arc i.grammar.periods r; side = Low; b = g.heads_max }

      high : Cut
      high = record { arc = group_arc i.grammar.periods r; side = High; b = g.heads_min - 1 }

      less : (m n : ℕ) → nat_lt m n ≡ true → m < n
      less m n e = grind (arith, nat_tests)

      lows : (b : Bool) → nat_lt g.heads_max i.heads_max ≡ b → Each (IsGoodCut i) (cond b (low ∷ []) [])
      lows true e = let lt = less g.heads_max i.heads_max e in
          (record { node = record { arc = inr (r, above, within, refl); few = omega (arith, lt, few) }; below = lt }, tt)
      lows false e = tt

      highs : (b : Bool) → nat_lt 0 g.heads_min ≡ b → Each (IsGoodCut i) (cond b (high ∷ []) [])
      highs true e = let lt = less 0 g.heads_min e in
          let order = range.order in
          let top = range.within in
          let below : g.heads_min - 1 < i.heads_max = omega (arith, lt, order, top) in
          (record { node = record { arc = inr (r, above, within, refl); few = omega (arith, below, few) }; below = below }, tt)
      highs false e = tt

  from-good : (r : ℕ) (gs : List Group) → length i.grammar.rules - length i.groups < r → r + length gs ≤ length i.grammar.rules + 1 → Each (IsRange i.heads_max) gs
      → Each (IsGoodCut i) (cuts_from i r gs)
  from-good r [] above within ranges = tt
  from-good r (g ∷ gs) above within ranges = Each-append (IsGoodCut i) (group_cuts i r g) (cuts_from i (r + 1) gs)
      (group-good r g above (omega (arith, within)) ranges.0) (from-good (r + 1) gs (omega (arith, above)) (omega (arith, within)) ranges.1)

pub base-good : (i : Instance) → IsSoundInstance i → Each (IsGoodCut i) (base_cuts i)
base-good i sound = by i.groups refl sound.groups
  where
    by : (gs : List Group) → i.groups ≡ gs → HasGroups i gs → Each (IsGoodCut i) (base_cuts i)
    by [] e h = let base : base_cuts i ≡ [] = rw e refl in subst (λ (cs : List Cut). Each (IsGoodCut i) cs) (sym base) tt
    by (g ∷ gs) e h =
        let fit = ranges (length h.0.names) i.heads_max i.groups h.1.groups.each (omega (arith, h.1.most)) in
        let rules : length i.grammar.rules ≡ length (h.0.rules ++ map (group_rule (length h.0.names)) i.groups) = ap (λ (x : Grammar). length x.rules) h.1.grammar in
        let sum = length-append h.0.rules (map (group_rule (length h.0.names)) i.groups) in
        let same = length-map i.groups (group_rule (length h.0.names)) in
        let enough : length i.groups ≤ length i.grammar.rules = omega (arith, rules, sum, same) in
        from-good i sound.few (length i.grammar.rules - length i.groups + 1) i.groups (omega arith) (omega (arith, enough)) fit

count-few : (most : ℕ) (gs : List Group) → sum_n (group_cut_count most) gs ≤ 2 * length gs
count-few most [] = omega arith
count-few most (g ∷ gs) =
    let h = count-few most gs in
    let one : group_cut_count most g ≤ 2 = by (nat_lt g.heads_max most) (nat_lt 0 g.heads_min) in
    omega (arith, h, one)
  where
    by : (b c : Bool) → cond b 1 0 + cond c 1 0 ≤ 2
    by true true = omega arith
    by true false = omega arith
    by false true = omega arith
    by false false = omega arith

-- there are at most 16 base cuts
pub base-few : (i : Instance) → IsSoundInstance i → length (base_cuts i) ≤ 16
base-few i sound =
    let e = base_length i in
    let h = count-few i.heads_max i.groups in
    let few : length i.groups ≤ 8 = by i.groups refl sound.groups in
    omega (arith, e, h, few)
  where
    by : (gs : List Group) → i.groups ≡ gs → HasGroups i gs → length i.groups ≤ 8
    by [] e h = let z : length i.groups ≡ 0 = ap (λ (xs : List Group). length xs) e in omega (arith, z)
    by (g ∷ gs) e h = h.1.groups.few
