-- The base cuts leave a count on both sides, each below those before it.
use Rattle.std.proofs.Common.{◌≡◌, ℕ, arith, ◌+◌, ◌-◌, ◌≤◌, ◌<◌, Bool, true, false, cond, All, List, [], ◌∷◌, ◌++◌, length, refl, ap, sym, subst, ◌∙◌, inl, inr}
use Rattle.std.specs.Prelude.{nat_lt}
use Rattle.std.proofs.lemmas.Bool.Decides.{nat_tests}
use Rattle.std.proofs.lemmas.List.{append-nil}
use Rattle.std.proofs.lemmas.List.Elements.{All-head, All-tail}
use Rattle.model_rosters.specs.declared.grammar.ArcKey.{ArcKey}
use Rattle.model_rosters.specs.declared.instance.Cut.{Cut}
use Rattle.model_rosters.specs.declared.instance.Group.{Group}
use Rattle.model_rosters.specs.declared.instance.Instance.{Instance}
use Rattle.model_rosters.specs.declared.instance.Side.TheVariants.{Low, High}
use Rattle.model_rosters.specs.Arcs.{same_arc}
use Rattle.model_rosters.specs.Cuts.{lo, hi, group_arc, cuts_from, base_cuts}
use Rattle.model_rosters.specs.Folds.{sum_n, Each}
use Rattle.model_rosters.specs.SoundInstance.{IsSoundInstance, IsGroup, HasGroups}
use Rattle.model_rosters.proofs.EachLemmas.{Each-append}
use Rattle.model_rosters.proofs.arc_laws.SameArc.{Told, arc_tells, same_arc-refl}
use Rattle.search_arc_counts.specs.node_path.Steps.{IsWithin, AreWithin}

-- the cut is on another arc
abbrev IsElsewhere : ArcKey → Cut → Type 0
IsElsewhere a c = same_arc c.arc a ≡ false

-- cuts on other arcs leave the arc what it has without them
lo-elsewhere : (above cuts : List Cut) (a : ArcKey) → Each (IsElsewhere a) above → lo (above ++ cuts) a ≡ lo cuts a
lo-elsewhere [] cuts a h = refl
lo-elsewhere (c ∷ above) cuts a h = rw h.0 (omega (arith, lo-elsewhere above cuts a h.1))

hi-elsewhere : (most : ℕ) (above cuts : List Cut) (a : ArcKey) → Each (IsElsewhere a) above → hi most (above ++ cuts) a ≡ hi most cuts a
hi-elsewhere most [] cuts a h = refl
hi-elsewhere most (c ∷ above) cuts a h = rw h.0 (hi-elsewhere most above cuts a h.1)

-- a group's range is one, within the day's
record IsRange (most : ℕ) (g : Group) : Type 0 where
  pub order : g.heads_min ≤ g.heads_max
  pub within : g.heads_max ≤ most

positive : (n : ℕ) → nat_lt 0 n ≡ true → 0 < n
positive n e = grind (arith, nat_tests)

less : (m n : ℕ) → nat_lt m n ≡ true → m < n
less m n e = grind (arith, nat_tests)

module _ (i : Instance) where
  abbrev low_of : ℕ → Group → Cut
  low_of r g = record { arc = group_arc i.grammar.periods r; side = Low; b = g.heads_max }

  abbrev high_of : ℕ → Group → Cut
  high_of r g = record { arc = group_arc i.grammar.periods r; side = High; b = g.heads_min - 1 }

  -- no cut is on an arc of a rule from this one on
  abbrev AreBefore : ℕ → List Cut → Type 0
  AreBefore r above = (a : ArcKey) → r ≤ a.rule → Each (IsElsewhere a) above

  not_here : (r : ℕ) (a : ArcKey) → r < a.rule → same_arc (group_arc i.grammar.periods r) a ≡ false
  not_here r a lt = by (arc_tells (group_arc i.grammar.periods r) a)
    where
      by : Told (group_arc i.grammar.periods r) a → same_arc (group_arc i.grammar.periods r) a ≡ false
      by (inl t) = let e : r ≡ a.rule = ap (λ (x : ArcKey). x.rule) t.2 in absurd (omega (arith, e, lt))
      by (inr t) = t.0

  -- a cut more on the arc of the group's rule
  one-more : (r : ℕ) (above : List Cut) (c : Cut) → c.arc ≡ group_arc i.grammar.periods r → AreBefore r above → AreBefore (r + 1) (above ++ c ∷ [])
  one-more r above c e before a le =
      Each-append (IsElsewhere a) above (c ∷ []) (before a (omega (arith, le)))
      (subst (λ (x : ArcKey). same_arc x a ≡ false) (sym e) (not_here r a (omega (arith, le))), tt)

  low-within : (r : ℕ) (g : Group) (above : List Cut) → AreBefore r above → g.heads_max < i.heads_max → IsWithin i above (low_of r g)
  low-within r g above before lt =
      let a = group_arc i.grammar.periods r in
      let each = before a (omega arith) in
      let l = ap (λ (xs : List Cut). lo xs a) (sym (append-nil above)) ∙ lo-elsewhere above [] a each in
      let h = ap (λ (xs : List Cut). hi i.heads_max xs a) (sym (append-nil above)) ∙ hi-elsewhere i.heads_max above [] a each in
      (omega (arith, l), omega (arith, h, lt))

  high-within : (r : ℕ) (g : Group) (above : List Cut) → AreBefore r above → IsRange i.heads_max g → 0 < g.heads_min → IsWithin i above (high_of r g)
  high-within r g above before range lt =
      let a = group_arc i.grammar.periods r in
      let each = before a (omega arith) in
      let l = ap (λ (xs : List Cut). lo xs a) (sym (append-nil above)) ∙ lo-elsewhere above [] a each in
      let h = ap (λ (xs : List Cut). hi i.heads_max xs a) (sym (append-nil above)) ∙ hi-elsewhere i.heads_max above [] a each in
      (omega (arith, l), omega (arith, h, lt, range.order, range.within))

  -- the High cut below the Low cut
  both-within : (r : ℕ) (g : Group) (above : List Cut) → AreBefore r above → IsRange i.heads_max g → 0 < g.heads_min → g.heads_max < i.heads_max → IsWithin i (above ++ low_of r g ∷ []) (high_of r g)
  both-within r g above before range positive lt =
      let a = group_arc i.grammar.periods r in
      let each = before a (omega arith) in
      let here = same_arc-refl a in
      let l : lo (above ++ low_of r g ∷ []) a ≡ 0 = lo-elsewhere above (low_of r g ∷ []) a each ∙ rw here (omega arith) in
      let h : hi i.heads_max (above ++ low_of r g ∷ []) a ≡ g.heads_max = hi-elsewhere i.heads_max above (low_of r g ∷ []) a each ∙ rw here (omega (arith, lt)) in
      (omega (arith, l), omega (arith, h, positive, range.order))

  from-within : (gs : List Group) (r : ℕ) (above : List Cut) → AreBefore r above → Each (IsRange i.heads_max) gs → AreWithin i above (cuts_from i r gs)
  from-within [] r above before ranges = tt
  from-within (g ∷ gs) r above before ranges = by (nat_lt g.heads_max i.heads_max) refl (nat_lt 0 g.heads_min) refl (λ below passed. from-within gs (r + 1) below passed ranges.1)
    where
      by : (s : Bool) → nat_lt g.heads_max i.heads_max ≡ s → (t : Bool) → nat_lt 0 g.heads_min ≡ t
          → ((below : List Cut) → AreBefore (r + 1) below → AreWithin i below (cuts_from i (r + 1) gs))
          → AreWithin i above ((cond s (low_of r g ∷ []) [] ++ cond t (high_of r g ∷ []) []) ++ cuts_from i (r + 1) gs)
      by false e false f rest = rest above (λ a le. before a (omega (arith, le)))
      by true e false f rest = (low-within r g above before (less g.heads_max i.heads_max e), rest (above ++ low_of r g ∷ []) (one-more r above (low_of r g) refl before))
      by false e true f rest = (high-within r g above before ranges.0 (positive g.heads_min f), rest (above ++ high_of r g ∷ []) (one-more r above (high_of r g) refl before))
      by true e true f rest = (
        low-within r g above before (less g.heads_max i.heads_max e),
        (
          both-within r g above before ranges.0 (positive g.heads_min f) (less g.heads_max i.heads_max e),
          rest ((above ++ low_of r g ∷ []) ++ high_of r g ∷ []) (λ a le. Each-append (IsElsewhere a) (above ++ low_of r g ∷ []) (high_of r g ∷ [])
              (one-more r above (low_of r g) refl before a le) (not_here r a (omega (arith, le)), tt)),
        ),
      )

-- each group's greatest number is at most their sum
ranges : (names top : ℕ) (gs : List Group) → All (IsGroup names) gs → sum_n (λ (g : Group). g.heads_max) gs ≤ top → Each (IsRange top) gs
ranges names top [] all le = tt
ranges names top (g ∷ gs) all le =
    let h = All-head (IsGroup names) g gs all in
    (record { order = h.order; within = omega (arith, le) }, ranges names top gs (All-tail (IsGroup names) g gs all) (omega (arith, le)))

pub base-within : (i : Instance) → IsSoundInstance i → AreWithin i [] (base_cuts i)
base-within i sound = from-within i i.groups (length i.grammar.rules - length i.groups + 1) [] (λ a le. tt) (by i.groups refl sound.groups)
  where
    by : (gs : List Group) → i.groups ≡ gs → HasGroups i gs → Each (IsRange i.heads_max) i.groups
    by [] e h = subst (λ (xs : List Group). Each (IsRange i.heads_max) xs) (sym e) tt
    by (g ∷ gs) e h = ranges (length h.0.names) i.heads_max i.groups h.1.groups.each (omega (arith, h.1.most))
