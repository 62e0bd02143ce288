-- The base cuts leave each arc a count, and ask for arcs of the instance alone.
use Rattle.std.proofs.Common.{◌≡◌, ℕ, arith, ◌+◌, ◌-◌, ◌≤◌, ◌<◌, Bool, true, false, cond, All, List, [], ◌∷◌, ◌++◌, length, refl, ap, sym, subst, ◌∙◌, inl, inr, nat_eq}
use Rattle.std.specs.Prelude.{nat_lt}
use Rattle.std.proofs.lemmas.Bool.{eq-eqb}
use Rattle.std.proofs.lemmas.Bool.Decides.{nat_tests}
use Rattle.std.proofs.lemmas.List.Elements.{All-head, All-tail}
use Rattle.model_rosters.specs.declared.grammar.ArcKey.{ArcKey}
use Rattle.model_rosters.specs.declared.instance.Cut.{Cut}
use Rattle.model_rosters.specs.declared.instance.Group.{Group}
use Rattle.model_rosters.specs.declared.instance.Instance.{Instance}
use Rattle.model_rosters.specs.declared.instance.Side.TheVariants.{Low, High}
use Rattle.model_rosters.specs.Trees.{Parts, IsTreeOf}
use Rattle.model_rosters.specs.Arcs.{same_arc, arcs, IsArc}
use Rattle.model_rosters.specs.Cuts.{lo, hi, group_arc, group_cuts, cuts_from, base_cuts}
use Rattle.model_rosters.specs.Folds.{sum_n, count, Each, In}
use Rattle.model_rosters.specs.SoundInstance.{IsSoundInstance, IsGroup, HasGroups}
use Rattle.model_rosters.specs.Teams.{Team, teams, teams_of, teams_from}
use Rattle.model_rosters.proofs.EachLemmas.{Each-append, Each-at}
use Rattle.model_rosters.proofs.arc_laws.SameArc.{Told, arc_tells, same_arc-true}
use Rattle.law_bounds.specs.Counted.{AsksForArc}
use Rattle.law_bounds.specs.DutyTrees.{own_rules}
use Rattle.law_bounds.specs.Infeasible.{IsPlainlyInfeasible}
use Rattle.law_bounds.proofs.ReadyInstances.{IsReady, arc_of_team}
use Rattle.law_bounds.proofs.SoundReady.{ready}

-- a group's range is one, within the day's
pub record IsRange (most : ℕ) (g : Group) : Type 0 where
  pub some : 1 ≤ g.heads_max
  pub order : g.heads_min ≤ g.heads_max
  pub within : g.heads_max ≤ most

module _ (i : Instance) (a : ArcKey) where
  abbrev n : ℕ
  n = i.grammar.periods

  abbrev most : ℕ
  most = i.heads_max

  abbrev low_of : ℕ → Group → Cut
  low_of r g = record { arc = group_arc i.grammar.periods r; side = Low; b = g.heads_max }

  abbrev high_of : ℕ → Group → Cut
  high_of r g = record { arc = group_arc i.grammar.periods r; side = High; b = g.heads_min - 1 }

  abbrev with_cuts : Bool → Bool → ℕ → Group → List Cut → List Cut
  with_cuts s t r g rest = (cond s (low_of r g ∷ []) [] ++ cond t (high_of r g ∷ []) []) ++ rest

  not_here : (r : ℕ) → a.rule < r → same_arc (group_arc i.grammar.periods r) a ≡ false
  not_here r lt = by (arc_tells (group_arc i.grammar.periods r) a)
    where
      by : Told (group_arc i.grammar.periods r) a → same_arc (group_arc i.grammar.periods r) a ≡ false
      by (inl t) = let e : r ≡ a.rule = ap (λ (x : ArcKey). x.rule) t.2 in absurd (omega (arith, e, lt))
      by (inr t) = t.0

  -- cuts on another arc
  others : (s t : Bool) (r : ℕ) (g : Group) (rest : List Cut) → same_arc (group_arc i.grammar.periods r) a ≡ false
      → (lo (with_cuts s t r g rest) a ≡ lo rest a) × (hi most (with_cuts s t r g rest) a ≡ hi most rest a)
  others false false r g rest e = (refl, refl)
  others false true r g rest e = (rw e (omega arith), rw e refl)
  others true false r g rest e = (rw e (omega arith), rw e refl)
  others true true r g rest e = (rw e (omega arith), rw e refl)

  -- cuts on the arc
  own : (s t : Bool) (r : ℕ) (g : Group) (rest : List Cut) → same_arc (group_arc i.grammar.periods r) a ≡ true → IsRange most g
      → lo rest a ≡ 0 → hi most rest a ≡ most → lo (with_cuts s t r g rest) a ≤ hi most (with_cuts s t r g rest) a
  own false false r g rest e range l h = omega (arith, l, h)
  own false true r g rest e range l h = rw e (omega (arith, l, h, range.some, range.order, range.within))
  own true false r g rest e range l h = rw e (omega (arith, l, h, range.some, range.order, range.within))
  own true true r g rest e range l h = rw e (omega (arith, l, h, range.some, range.order, range.within))

  far : (gs : List Group) (r : ℕ) → a.rule < r → (lo (cuts_from i r gs) a ≡ 0) × (hi most (cuts_from i r gs) a ≡ most)
  far [] r lt = (refl, refl)
  far (g ∷ gs) r lt =
      let o = others (nat_lt g.heads_max i.heads_max) (nat_lt 0 g.heads_min) r g (cuts_from i (r + 1) gs) (not_here r lt) in
      let f = far gs (r + 1) (omega (arith, lt)) in
      (o.0 ∙ f.0, o.1 ∙ f.1)

  from_open : (gs : List Group) (r : ℕ) → Each (IsRange most) gs → lo (cuts_from i r gs) a ≤ hi most (cuts_from i r gs) a
  from_open [] r h = omega arith
  from_open (g ∷ gs) r h = by (arc_tells (group_arc i.grammar.periods r) a) (from_open gs (r + 1) h.1)
    where
      by : Told (group_arc i.grammar.periods r) a → lo (cuts_from i (r + 1) gs) a ≤ hi most (cuts_from i (r + 1) gs) a
          → lo (with_cuts (nat_lt g.heads_max i.heads_max) (nat_lt 0 g.heads_min) r g (cuts_from i (r + 1) gs)) a ≤ hi most (with_cuts (nat_lt g.heads_max i.heads_max) (nat_lt 0 g.heads_min) r g (cuts_from i (r + 1) gs)) a
      by (inl t) ih =
          let e : r ≡ a.rule = ap (λ (x : ArcKey). x.rule) t.2 in
          let f = far gs (r + 1) (omega (arith, e)) in
          own (nat_lt g.heads_max i.heads_max) (nat_lt 0 g.heads_min) r g (cuts_from i (r + 1) gs) t.0 h.0 f.0 f.1
      by (inr t) ih =
          let o = others (nat_lt g.heads_max i.heads_max) (nat_lt 0 g.heads_min) r g (cuts_from i (r + 1) gs) t.0 in
          omega (arith, o.0, o.1, ih)

-- each group's greatest number is at most their sum
pub ranges : (names top : ℕ) (gs : List Group) → All (IsGroup names) gs → sum_n (λ (g : Group). g.heads_max) gs ≤ top → Each (IsRange top) gs
ranges names top [] all le = tt
ranges names top (g ∷ gs) all le =
    let h = All-head (IsGroup names) g gs all in
    (record { some = h.some; order = h.order; within = omega (arith, le) }, ranges names top gs (All-tail (IsGroup names) g gs all) (omega (arith, le)))

-- the base cuts leave each arc a count
pub base-open : (i : Instance) (a : ArcKey) → IsSoundInstance i → lo (base_cuts i) a ≤ hi i.heads_max (base_cuts i) a
base-open i a sound = from_open i a i.groups (length i.grammar.rules - length i.groups + 1) (by i.groups refl sound.groups)
  where
    by : (gs : List Group) → i.groups ≡ gs → HasGroups i gs → Each (IsRange i.heads_max) i.groups
    by [] e h = subst (λ (xs : List Group). Each (IsRange i.heads_max) xs) (sym e) tt
    by (g ∷ gs) e h = ranges (length h.0.names) i.heads_max i.groups h.1.groups.each (omega (arith, h.1.most))

-- what is counted once stands there
counted-in : (a : ArcKey) (xs : List ArcKey) → count (same_arc a) xs ≡ 1 → In a xs
counted-in a [] e = absurd (omega (arith, e))
counted-in a (x ∷ xs) e = by (same_arc a x) refl (λ f. counted-in a xs f)
  where
    by : (b : Bool) → same_arc a x ≡ b → (count (same_arc a) xs ≡ 1 → In a xs) → In a (x ∷ xs)
    by true s ih = inl (same_arc-true a x s)
    by false s ih = inr (ih (let z : ◌≡◌ {A = ℕ} (cond (same_arc a x) 1 0) 0 = rw s refl in omega (arith, z, e)))

module _ (i : Instance) (is : IsReady i) (busy : IsPlainlyInfeasible i → ⊥) where
  -- the arc of a group that needs employees is an arc of the instance
  team-arc : (team : Team) → In team (teams_from 1 i.groups) → In team (teams i) → 0 < team.least → (IsArc i.grammar (arc_of_team i team) → ⊥) → ⊥
  team-arc team within listed needs lacks = busy (inl (team, record { team = listed; needs = needs; none = none }))
    where
      none : (p : Parts) → IsTreeOf i.grammar team.name p → ⊥
      none p h =
          let w = is.wrap team listed p h in
          let e = Each-at (λ (o : Team). count (same_arc (arc_of_team i o)) (arcs 1 w.0) ≡ cond (nat_eq team.number o.number) 1 0) team (teams_from 1 i.groups) w.1.base within in
          let own : cond (nat_eq team.number team.number) 1 0 ≡ 1 = rw (eq-eqb team.number team.number refl) refl in
          lacks (w.0, w.1.day, counted-in (arc_of_team i team) (arcs 1 w.0) (e ∙ own))

  group-asks : (k : ℕ) (g : Group) → ((team : Team) → team ≡ record { number = k; name = g.name; least = g.heads_min; most = g.heads_max } → In team (teams_from 1 i.groups) × In team (teams i))
      → Each (AsksForArc i) (group_cuts i (own_rules i + k) g)
  group-asks k g within = Each-append (AsksForArc i) (cond (nat_lt g.heads_max i.heads_max) (low ∷ []) []) (cond (nat_lt 0 g.heads_min) (high ∷ []) []) (lows (nat_lt g.heads_max i.heads_max)) (highs (nat_lt 0 g.heads_min) refl)
    where
      low : Cut
      low = record { arc = group_arc i.grammar.periods (own_rules i + k); side = Low; b = g.heads_max }

      high : Cut
      high = record { arc = group_arc i.grammar.periods (own_rules i + k); side = High; b = g.heads_min - 1 }

      lows : (b : Bool) → Each (AsksForArc i) (cond b (low ∷ []) [])
      lows true = (λ e. cc, tt)
      lows false = tt

      team : Team
      team = record { number = k; name = g.name; least = g.heads_min; most = g.heads_max }

      positive : (n : ℕ) → nat_lt 0 n ≡ true → 0 < n
      positive n e = grind (arith, nat_tests)

      highs : (b : Bool) → nat_lt 0 g.heads_min ≡ b → Each (AsksForArc i) (cond b (high ∷ []) [])
      highs true e = (λ s lacks. team-arc team (within team refl).0 (within team refl).1 (positive g.heads_min e) lacks, tt)
      highs false e = tt

  cuts-ask : (k r : ℕ) (gs : List Group) → r ≡ own_rules i + k → ((team : Team) → In team (teams_from k gs) → In team (teams_from 1 i.groups) × In team (teams i)) → Each (AsksForArc i) (cuts_from i r gs)
  cuts-ask k r [] e within = tt
  cuts-ask k r (g ∷ gs) e within =
      Each-append (AsksForArc i) (group_cuts i r g) (cuts_from i (r + 1) gs)
      (rw e (group-asks k g (λ team is. within team (inl is))))
      (cuts-ask (k + 1) (r + 1) gs (omega (arith, e)) (λ team h. within team (inr h)))

pub base-asks : (i : Instance) → IsSoundInstance i → (IsPlainlyInfeasible i → ⊥) → Each (AsksForArc i) (base_cuts i)
base-asks i sound busy = cuts-ask i (ready i sound) busy 1 _ i.groups refl (λ team h. (h, listed i.groups refl team h))
  where
    listed : (gs : List Group) → i.groups ≡ gs → (team : Team) → In team (teams_from 1 i.groups) → In team (teams i)
    listed [] e team h = absurd (subst (λ (xs : List Group). In team (teams_from 1 xs)) e h)
    listed (g ∷ gs) e team h = subst (λ (xs : List Group). In team (teams_from 1 xs) → In team (teams_of i xs)) (sym e) (λ k. k) h
