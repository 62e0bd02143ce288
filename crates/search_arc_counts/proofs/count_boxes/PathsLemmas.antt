-- One cut more on a path, and what it leaves of a box.
use Rattle.std.proofs.Common.{◌≡◌, ◌≢◌, ℕ, arith, ◌≤◌, ◌<◌, max, Bool, false, cond, List, [], ◌∷◌, ◌++◌, Option, None, Some, length, get_or, set, refl, ap, sym, subst, ◌∙◌, ◌⊎◌, inl, inr, get_or-set_same, get_or-set_other}
use Rattle.std.specs.Prelude.{slice_get, ◌↔◌, MatchOption}
use Rattle.std.proofs.lemmas.List.{length-set}
use Rattle.std.proofs.lemmas.Option.{same_Some, slice_get_within, slice_get-get_or}
use Rattle.std.proofs.lemmas.Bool.{cases_eq}
use Rattle.model_rosters.specs.declared.grammar.ArcKey.{ArcKey}
use Rattle.model_rosters.specs.declared.instance.Cut.{Cut}
use Rattle.model_rosters.specs.declared.instance.Instance.{Instance}
use Rattle.model_rosters.specs.declared.instance.Side.{Side}
use Rattle.model_rosters.specs.declared.instance.Side.TheVariants.{Low, High}
use Rattle.model_rosters.specs.Arcs.{same_arc, IsArc}
use Rattle.model_rosters.specs.Cuts.{lo, hi, at_least, at_most}
use Rattle.model_rosters.proofs.arc_laws.SameArc.{Told, arc_tells, same_arc-refl}
use Rattle.model_rosters.proofs.arc_laws.PathBounds.{lo_more, hi_more}
use Rattle.law_bounds.specs.Pinned.{IsPinned}
use Rattle.tree_graph.specs.Graphs.{GraphView, IsGraph}
use Rattle.search_arc_counts.specs.declared.count_boxes.bounds.Bounds.{Bounds}
use Rattle.search_arc_counts.specs.count_boxes.Boxes.{BoxView, bounds_at, halved, IsPinnedBox, IsFirstOpen}
use Rattle.search_arc_counts.specs.count_boxes.Paths.{IsBoxOf, WasBoxOf, IsLooseAt, CutsElsewhere}

module _ (i : Instance) (v : GraphView) (graph : IsGraph i.grammar v) (cuts : List Cut) (p : ℕ) (a : ArcKey) (at : slice_get v.arcs p ≡ Some a) (side : Side) (n : ℕ) where
  abbrev c : Cut
  c = record { arc = a; side = side; b = n }

  -- a cut says nothing of the other arcs
  other : (q : ℕ) (x : ArcKey) → slice_get v.arcs q ≡ Some x → q ≢ p → same_arc a x ≡ false
  other q x e ne = by (arc_tells a x)
    where
      by : Told a x → same_arc a x ≡ false
      by (inl t) = absurd (ne (graph.arcs.once q p x e (at ∙ ap Some t.2)))
      by (inr t) = t.0

  here : (q : ℕ) (x : ArcKey) → slice_get v.arcs q ≡ Some x → q ≡ p → a ≡ x
  here q x e is = same_Some a x (sym at ∙ subst (λ (k : ℕ). slice_get v.arcs k ≡ Some x) is e)

  lo_other : (x : ArcKey) → same_arc a x ≡ false → lo (cuts ++ c ∷ []) x ≡ lo cuts x
  lo_other x apart = lo_more cuts c x ∙ ap (λ (b : Bool). max (lo cuts x) (cond b (at_least side n) 0)) apart ∙ none (lo cuts x)
    where
      none : (m : ℕ) → max m 0 ≡ m
      none m = grind arith

  hi_other : (x : ArcKey) → same_arc a x ≡ false → hi i.heads_max (cuts ++ c ∷ []) x ≡ hi i.heads_max cuts x
  hi_other x apart = hi_more i.heads_max cuts c x ∙ ap (λ (b : Bool). cond b (at_most side n (hi i.heads_max cuts x)) (hi i.heads_max cuts x)) apart

  lo_here : (side' : Side) → side' ≡ side → (b : Bounds) → b.low ≡ lo cuts a → b.low ≤ n → (halved side' n b).low ≡ lo (cuts ++ c ∷ []) a
  lo_here s e b low le =
      let more = lo_more cuts c a ∙ ap (λ (t : Bool). max (lo cuts a) (cond t (at_least side n) 0)) (same_arc-refl a) in
      by s b low le (lo cuts a) refl ∙ ap (λ (t : Side). max (lo cuts a) (at_least t n)) e ∙ sym more
    where
      by : (s : Side) (b : Bounds) → b.low ≡ lo cuts a → b.low ≤ n → (m : ℕ) → m ≡ lo cuts a → (halved s n b).low ≡ max (lo cuts a) (at_least s n)
      by Low b low le m is = grind (arith, low)
      by High b low le m is = grind (arith, low, le)

  hi_here : (side' : Side) → side' ≡ side → (b : Bounds) → b.high ≡ hi i.heads_max cuts a → n < b.high → (halved side' n b).high ≡ hi i.heads_max (cuts ++ c ∷ []) a
  hi_here s e b high lt =
      let more = hi_more i.heads_max cuts c a ∙ ap (λ (t : Bool). cond t (at_most side n (hi i.heads_max cuts a)) (hi i.heads_max cuts a)) (same_arc-refl a) in
      by s b high lt ∙ ap (λ (t : Side). at_most t n (hi i.heads_max cuts a)) e ∙ sym more
    where
      by : (s : Side) (b : Bounds) → b.high ≡ hi i.heads_max cuts a → n < b.high → (halved s n b).high ≡ at_most s n (hi i.heads_max cuts a)
      by Low b high lt = grind (arith, high, lt)
      by High b high lt = high

  -- the arc's bounds alone change
  box_set : (old new : List Cut) (bounds : List Bounds) (places : ℕ) (y : Bounds) → IsBoxOf i v old (record { bounds = bounds; places = places })
      → y.low ≡ lo new a → y.high ≡ hi i.heads_max new a
      → ((x : ArcKey) → same_arc a x ≡ false → lo old x ≡ lo new x) → ((x : ArcKey) → same_arc a x ≡ false → hi i.heads_max old x ≡ hi i.heads_max new x)
      → IsBoxOf i v new (record { bounds = set bounds p y; places = places })
  box_set old new bounds places y h low high lows highs = record {
    made = record { arcs = length-set bounds p y ∙ h.made.arcs; places = h.made.places };
    low = λ q x e. low_of q x e (cases_eq q p);
    high = λ q x e. high_of q x e (cases_eq q p);
  }
    where
      within : p < length bounds
      within = omega (arith, slice_get_within v.arcs p a at, h.made.arcs)

      changed : (q : ℕ) → q ≡ p → bounds_at (set bounds p y) q ≡ y
      changed q same = ap (λ (k : ℕ). bounds_at (set bounds p y) k) same ∙ get_or-set_same bounds p y (record { low = 0; high = 0 }) within

      kept : (q : ℕ) → q ≢ p → bounds_at (set bounds p y) q ≡ bounds_at bounds q
      kept q ne = get_or-set_other bounds p q y (record { low = 0; high = 0 }) ne

      low_of : (q : ℕ) (x : ArcKey) → slice_get v.arcs q ≡ Some x → (q ≡ p) ⊎ (q ≢ p) → (bounds_at (set bounds p y) q).low ≡ lo new x
      low_of q x e (inl same) = ap (λ (b : Bounds). b.low) (changed q same) ∙ low ∙ ap (λ (z : ArcKey). lo new z) (here q x e same)
      low_of q x e (inr ne) = ap (λ (b : Bounds). b.low) (kept q ne) ∙ h.low q x e ∙ lows x (other q x e ne)

      high_of : (q : ℕ) (x : ArcKey) → slice_get v.arcs q ≡ Some x → (q ≡ p) ⊎ (q ≢ p) → (bounds_at (set bounds p y) q).high ≡ hi i.heads_max new x
      high_of q x e (inl same) = ap (λ (b : Bounds). b.high) (changed q same) ∙ high ∙ ap (λ (z : ArcKey). hi i.heads_max new z) (here q x e same)
      high_of q x e (inr ne) = ap (λ (b : Bounds). b.high) (kept q ne) ∙ h.high q x e ∙ highs x (other q x e ne)

  -- a cut within the box leaves the box of the longer path
  pub box-cut : (bounds : List Bounds) (places : ℕ) → IsBoxOf i v cuts (record { bounds = bounds; places = places }) → (y : Bounds) → y ≡ halved side n (bounds_at bounds p)
      → (bounds_at bounds p).low ≤ n → n < (bounds_at bounds p).high → IsBoxOf i v (cuts ++ c ∷ []) (record { bounds = set bounds p y; places = places })
  box-cut bounds places h y is le lt =
      box_set cuts (cuts ++ c ∷ []) bounds places y h
      (ap (λ (b : Bounds). b.low) is ∙ lo_here side refl (bounds_at bounds p) (h.low p a at) le)
      (ap (λ (b : Bounds). b.high) is ∙ hi_here side refl (bounds_at bounds p) (h.high p a at) lt)
      (λ x apart. sym (lo_other x apart)) (λ x apart. sym (hi_other x apart))

  -- the arc's bounds put back leave the box of the shorter path
  pub box-back : (bounds : List Bounds) (places : ℕ) (old : ℕ × ℕ) → IsBoxOf i v (cuts ++ c ∷ []) (record { bounds = bounds; places = places }) → WasBoxOf i cuts a old
      → IsBoxOf i v cuts (record { bounds = set bounds p (record { low = old.0; high = old.1 }); places = places })
  box-back bounds places old h was =
      box_set (cuts ++ c ∷ []) cuts bounds places (record { low = old.0; high = old.1 }) h was.0 was.1 lo_other hi_other

-- a box is pinned where its path is
pub box-pinned : (i : Instance) (v : GraphView) (cuts : List Cut) (b : BoxView) → IsGraph i.grammar v → IsBoxOf i v cuts b → IsPinnedBox b ↔ IsPinned i cuts
box-pinned i v cuts b graph h = (λ pinned. record { tight = there pinned }, λ tight p lt. back tight p lt)
  where
    there : IsPinnedBox b → (a : ArcKey) → IsArc i.grammar a → hi i.heads_max cuts a ≤ lo cuts a
    there pinned a is =
        let r = graph.arcs.whole a is in
        let le = pinned r.0 (omega (arith, slice_get_within v.arcs r.0 a r.1, h.made.arcs)) in
        omega (arith, le, h.low r.0 a r.1, h.high r.0 a r.1)

    back : IsPinned i cuts → (p : ℕ) → p < length b.bounds → (bounds_at b.bounds p).high ≤ (bounds_at b.bounds p).low
    back tight p lt =
        let a = get_or v.arcs p (record { rule = 0; suffix = 0; start = 0; len = 0; part = 0 }) in
        let at = slice_get-get_or v.arcs p (record { rule = 0; suffix = 0; start = 0; len = 0; part = 0 }) (omega (arith, lt, h.made.arcs)) in
        let le = tight.tight a (graph.arcs.sound p a at) in
        omega (arith, le, h.low p a at, h.high p a at)

-- where a box has no arc with one count, the path has none
pub box-loose : (i : Instance) (v : GraphView) (cuts : List Cut) (b : BoxView) → IsGraph i.grammar v → IsBoxOf i v cuts b → (r : Option ℕ)
    → MatchOption r (IsPinnedBox b) (IsFirstOpen b) → MatchOption r (IsPinned i cuts) (IsLooseAt i v cuts)
box-loose i v cuts b graph h None told = (box-pinned i v cuts b graph h).0 told
box-loose i v cuts b graph h (Some p) told =
    let a = get_or v.arcs p (record { rule = 0; suffix = 0; start = 0; len = 0; part = 0 }) in
    let at = slice_get-get_or v.arcs p (record { rule = 0; suffix = 0; start = 0; len = 0; part = 0 }) (omega (arith, told.within, h.made.arcs)) in
    (a, at, omega (arith, told.loose, h.low p a at, h.high p a at))

-- a cut on no arc of the instance changes no box
pub cuts-elsewhere : CutsElsewhere
cuts-elsewhere i v cuts c b graph none h = record {
  made = h.made;
  low = λ p a at. h.low p a at ∙ sym (lo_more cuts c a ∙ ap (λ (t : Bool). max (lo cuts a) (cond t (at_least c.side c.b) 0)) (apart p a at) ∙ least (lo cuts a));
  high = λ p a at. h.high p a at ∙ sym (hi_more i.heads_max cuts c a ∙ ap (λ (t : Bool). cond t (at_most c.side c.b (hi i.heads_max cuts a)) (hi i.heads_max cuts a)) (apart p a at));
}
  where
    least : (m : ℕ) → max m 0 ≡ m
    least m = grind arith

    apart : (p : ℕ) (a : ArcKey) → slice_get v.arcs p ≡ Some a → same_arc c.arc a ≡ false
    apart p a at = by (arc_tells c.arc a)
      where
        by : Told c.arc a → same_arc c.arc a ≡ false
        by (inl t) = absurd (none (subst (λ (x : ArcKey). IsArc i.grammar x) (sym t.2) (graph.arcs.sound p a at)))
        by (inr t) = t.0
