-- A search among the arcs in their order.
use Rattle.std.proofs.Common.{◌≡◌, ℕ, arith, ◌+◌, ◌<◌, ◌≤◌, Bool, true, List, Some, length, refl, sym, ap, subst, ◌∙◌, ◌⊎◌, inl, inr}
use Rattle.std.proofs.lemmas.Bool.{eqb-true, eq-eqb, and_parts}
use Rattle.std.specs.Prelude.{slice_get, nat_eq, ◌&&◌}
use Rattle.std.proofs.lemmas.Option.{same_Some, slice_get_within, slice_get-get_or}
use Rattle.model_rosters.specs.declared.grammar.ArcKey.{ArcKey}
use Rattle.model_rosters.specs.Arcs.{ArcBefore, arc_numbers}
use Rattle.model_rosters.specs.Folds.{In}
use Rattle.model_rosters.proofs.ComesFirstLemmas.{first_apart, first_through}
use Rattle.model_rosters.proofs.EachLemmas.{in-get}
use Rattle.tree_graph.specs.Levels.{AreInOrder}
use Rattle.tree_graph.proofs.LevelsLemmas.{three}

-- the arcs before low come before the arc, and those from high on do not
pub record IsSearched (arcs : List ArcKey) (places : List ℕ) (arc : ArcKey) (low high : ℕ) : Type 0 where
  pub order : low ≤ high
  pub within : high ≤ length places
  pub under : (k p : ℕ) (a : ArcKey) → k < low → slice_get places k ≡ Some p → slice_get arcs p ≡ Some a → ArcBefore a arc
  pub above : (k p : ℕ) (a : ArcKey) → high ≤ k → slice_get places k ≡ Some p → slice_get arcs p ≡ Some a → ArcBefore a arc → ⊥

module _ (arcs : List ArcKey) (places : List ℕ) (arc : ArcKey) (ordered : AreInOrder arcs places) where
  pub searched-none : IsSearched arcs places arc 0 (length places)
  searched-none = record {
    order = omega arith;
    within = omega arith;
    under = λ k p a l. absurd (omega (arith, l));
    above = λ k p a l e. absurd (omega (arith, l, slice_get_within places k p e));
  }

  module _ (low high m q : ℕ) (b : ArcKey) (h : IsSearched arcs places arc low high) (in_low : low ≤ m) (in_high : m < high) (at : slice_get places m ≡ Some q) (here : slice_get arcs q ≡ Some b) where
    -- what comes before an arc that comes before it does so too
    pub searched-up : ArcBefore b arc → IsSearched arcs places arc (m + 1) high
    searched-up less = record {
      order = omega (arith, in_high);
      within = h.within;
      under = λ k p a l e f. by k p a e f (three k m) l;
      above = h.above;
    }
      where
        by : (k p : ℕ) (a : ArcKey) → slice_get places k ≡ Some p → slice_get arcs p ≡ Some a → (k < m) ⊎ ((k ≡ m) ⊎ (m < k)) → k < m + 1 → ArcBefore a arc
        by k p a e f (inl l) n = first_through (arc_numbers a) (arc_numbers b) (arc_numbers arc) (ordered.rising k m p q a b l e at f here) less
        by k p a e f (inr (inl s)) n =
            let same = same_Some p q (sym e ∙ ap (slice_get places) s ∙ at) in
            subst (λ (x : ArcKey). ArcBefore x arc) (same_Some b a (sym here ∙ sym (ap (slice_get arcs) same) ∙ f)) less
        by k p a e f (inr (inr l)) n = absurd (omega (arith, l, n))

    pub searched-down : (ArcBefore b arc → ⊥) → IsSearched arcs places arc low m
    searched-down more = record {
      order = in_low;
      within = omega (arith, in_high, h.within);
      under = h.under;
      above = λ k p a l e f. by k p a e f (three k m) l;
    }
      where
        by : (k p : ℕ) (a : ArcKey) → slice_get places k ≡ Some p → slice_get arcs p ≡ Some a → (k < m) ⊎ ((k ≡ m) ⊎ (m < k)) → m ≤ k → ArcBefore a arc → ⊥
        by k p a e f (inl l) n less = absurd (omega (arith, l, n))
        by k p a e f (inr (inl s)) n less =
            let same = same_Some p q (sym e ∙ ap (slice_get places) s ∙ at) in
            more (subst (λ (x : ArcKey). ArcBefore x arc) (same_Some a b (sym f ∙ ap (slice_get arcs) same ∙ here)) less)
        by k p a e f (inr (inr l)) n less = more (first_through (arc_numbers b) (arc_numbers a) (arc_numbers arc) (ordered.rising m k q p b a l at e here f) less)

  -- an arc that stands in the list stands where the search ends
  pub searched-end : (low high : ℕ) → IsSearched arcs places arc low high → high ≤ low → In arc arcs → (p : ℕ) × (slice_get places low ≡ Some p) × (slice_get arcs p ≡ Some arc)
  searched-end low high h end there =
      let p = in-get arcs arc there in
      let k = ordered.whole p.0 (slice_get_within arcs p.0 arc p.1) in
      by p.0 k.0 p.1 k.1 (three k.0 low)
    where
      by : (p k : ℕ) → slice_get arcs p ≡ Some arc → slice_get places k ≡ Some p → (k < low) ⊎ ((k ≡ low) ⊎ (low < k)) → (p : ℕ) × (slice_get places low ≡ Some p) × (slice_get arcs p ≡ Some arc)
      by p k e f (inl l) = absurd (first_apart (arc_numbers arc) (h.under k p arc l f e))
      by p k e f (inr (inl s)) = (p, sym (ap (slice_get places) s) ∙ f, e)
      by p k e f (inr (inr l)) =
          let inside : low < length places = omega (arith, l, slice_get_within places k p f) in
          let q = slice_get-get_or places low 0 inside in
          let w = ordered.each low _ q in
          let b = slice_get-get_or arcs _ arc w in
          absurd (h.above low _ _ (omega (arith, end)) q b (ordered.rising low k _ p _ arc l q f b e))

-- whether all numbers are the same
abbrev pub arc_eq : ArcKey → ArcKey → Bool
arc_eq a b = nat_eq a.rule b.rule && (nat_eq a.suffix b.suffix && (nat_eq a.start b.start && (nat_eq a.len b.len && nat_eq a.part b.part)))

pub same-arc : (a b : ArcKey) → arc_eq a b ≡ true → a ≡ b
same-arc a b h =
    let p = and_parts (nat_eq a.rule b.rule) (nat_eq a.suffix b.suffix && (nat_eq a.start b.start && (nat_eq a.len b.len && nat_eq a.part b.part))) h in
    let q = and_parts (nat_eq a.suffix b.suffix) (nat_eq a.start b.start && (nat_eq a.len b.len && nat_eq a.part b.part)) p.1 in
    let r = and_parts (nat_eq a.start b.start) (nat_eq a.len b.len && nat_eq a.part b.part) q.1 in
    let s = and_parts (nat_eq a.len b.len) (nat_eq a.part b.part) r.1 in
    five a.rule b.rule a.suffix b.suffix a.start b.start a.len b.len a.part b.part (eqb-true a.rule b.rule p.0) (eqb-true a.suffix b.suffix q.0) (eqb-true a.start b.start r.0) (eqb-true a.len b.len s.0) (eqb-true a.part b.part s.1)
  where
    five : (r r' k k' i i' l l' s s' : ℕ) → r ≡ r' → k ≡ k' → i ≡ i' → l ≡ l' → s ≡ s'
        → ◌≡◌ {A = ArcKey} (record { rule = r; suffix = k; start = i; len = l; part = s }) (record { rule = r'; suffix = k'; start = i'; len = l'; part = s' })
    five r r' k k' i i' l l' s s' a b c d e = cc

pub own-arc : (a : ArcKey) → arc_eq a a ≡ true
own-arc a =
    let e0 = eq-eqb a.rule a.rule refl in
    let e1 = eq-eqb a.suffix a.suffix refl in
    let e2 = eq-eqb a.start a.start refl in
    let e3 = eq-eqb a.len a.len refl in
    let e4 = eq-eqb a.part a.part refl in
    rw (e0, e1, e2, e3, e4)
