-- A split halves the points of a box, so a tree of splits has no more leaves than points.
use Rattle.std.proofs.Common.{◌≡◌, ℕ, zero, suc, arith, ◌+◌, ◌*◌, ◌≤◌, ◌<◌, max, Bool, true, false, cond, List, [], ◌∷◌, ◌++◌, refl, subst, ◌∙◌, inl, inr}
use Rattle.std.specs.Prelude.{min}
use Rattle.model_rosters.specs.declared.grammar.ArcKey.{ArcKey}
use Rattle.model_rosters.specs.declared.instance.Cut.{Cut}
use Rattle.model_rosters.specs.Arcs.{same_arc}
use Rattle.model_rosters.specs.Cuts.{lo, hi}
use Rattle.model_rosters.specs.Folds.{count, In}
use Rattle.model_rosters.proofs.arc_laws.SameArc.{Told, arc_tells}
use Rattle.model_rosters.proofs.arc_laws.PathBounds.{lo_more, hi_more}
use Rattle.check_certificates.specs.Nodes.{low_cut, high_cut}
use Rattle.check_certificates.specs.growing_laws.Grown.{tip, fork, fresh, valued, fixed, SomeTip, busy, raised}
use Rattle.check_certificates.specs.growing_laws.Boxes.{room, size, IsOpenBox, IsOpenLeaf}
use Rattle.check_certificates.specs.growing_laws.Laws.{FewNodes, IsWithin}

module _ (most : ℕ) (cuts : List Cut) (a : ArcKey) (b : ℕ) where
  abbrev below : List Cut
  below = cuts ++ low_cut a b ∷ []

  abbrev beyond : List Cut
  beyond = cuts ++ high_cut a b ∷ []

  -- the bounds that each half leaves an arc
  pub record Halves (x : ArcKey) : Type 0 where
    pub low_lo : lo below x ≡ lo cuts x
    pub low_hi : hi most below x ≡ cond (same_arc a x) (min b (hi most cuts x)) (hi most cuts x)
    pub high_lo : lo beyond x ≡ max (lo cuts x) (cond (same_arc a x) (b + 1) 0)
    pub high_hi : hi most beyond x ≡ hi most cuts x

  halves : (x : ArcKey) → Halves x
  halves x = record {
    low_lo = lo_more cuts (low_cut a b) x ∙ zeros (same_arc a x) (lo cuts x);
    low_hi = hi_more most cuts (low_cut a b) x;
    high_lo = lo_more cuts (high_cut a b) x;
    high_hi = hi_more most cuts (high_cut a b) x ∙ same (same_arc a x) (hi most cuts x);
  }
    where
      zeros : (t : Bool) (n : ℕ) → max n (cond t 0 0) ≡ n
      zeros true n = omega arith
      zeros false n = omega arith

      same : (t : Bool) (n : ℕ) → cond t n n ≡ n
      same true n = refl
      same false n = refl

  -- the rooms of another arc stay
  room-other : (x : ArcKey) → same_arc a x ≡ false → (room most below x ≡ room most cuts x) × (room most beyond x ≡ room most cuts x)
  room-other x e =
      let h = halves x in
      let l : hi most below x ≡ hi most cuts x = subst (λ (t : Bool). hi most below x ≡ cond t (min b (hi most cuts x)) (hi most cuts x)) e h.low_hi in
      let g : lo beyond x ≡ max (lo cuts x) 0 = subst (λ (t : Bool). lo beyond x ≡ max (lo cuts x) (cond t (b + 1) 0)) e h.high_lo in
      (omega (arith, l, h.low_lo), omega (arith, g, h.high_hi))

  -- and those of the arc are halved
  room-here : (x : ArcKey) → same_arc a x ≡ true → lo cuts x ≤ b → b < hi most cuts x → room most below x + room most beyond x ≡ room most cuts x
  room-here x e le lt =
      let h = halves x in
      let l : hi most below x ≡ min b (hi most cuts x) = subst (λ (t : Bool). hi most below x ≡ cond t (min b (hi most cuts x)) (hi most cuts x)) e h.low_hi in
      let g : lo beyond x ≡ max (lo cuts x) (b + 1) = subst (λ (t : Bool). lo beyond x ≡ max (lo cuts x) (cond t (b + 1) 0)) e h.high_lo in
      omega (arith, l, g, h.low_lo, h.high_hi, le, lt)

  size-other : (listed : List ArcKey) → count (same_arc a) listed ≡ 0 → (size most below listed ≡ size most cuts listed) × (size most beyond listed ≡ size most cuts listed)
  size-other [] e = (refl, refl)
  size-other (x ∷ listed) e = by (arc_tells a x) (λ k. size-other listed k)
    where
      by : Told a x → (count (same_arc a) listed ≡ 0 → (size most below listed ≡ size most cuts listed) × (size most beyond listed ≡ size most cuts listed)) → (room most below x * size most below listed ≡ room most cuts x * size most cuts listed) × (room most beyond x * size most beyond listed ≡ room most cuts x * size most cuts listed)
      by (inl t) more = let s : ◌≡◌ {A = ℕ} (cond (same_arc a x) 1 0) 1 = rw t.0 refl in absurd (omega (arith, e, s))
      by (inr t) more =
          let r = room-other x t.0 in
          let s = more (omega (arith, e)) in
          (rw (r.0, s.0) refl, rw (r.1, s.1) refl)

  pub size-halved : lo cuts a ≤ b → b < hi most cuts a → (listed : List ArcKey) → count (same_arc a) listed ≡ 1 → size most below listed + size most beyond listed ≡ size most cuts listed
  size-halved le lt [] e = absurd (omega (arith, e))
  size-halved le lt (x ∷ listed) e = by (arc_tells a x) (λ k. size-halved le lt listed k)
    where
      by : Told a x → (count (same_arc a) listed ≡ 1 → size most below listed + size most beyond listed ≡ size most cuts listed) → room most below x * size most below listed + room most beyond x * size most beyond listed ≡ room most cuts x * size most cuts listed
      by (inl t) more =
          let s : ◌≡◌ {A = ℕ} (cond (same_arc a x) 1 0) 1 = rw t.0 refl in
          let o = size-other listed (omega (arith, e, s)) in
          let h = room-here x t.0 (subst (λ (y : ArcKey). lo cuts y ≤ b) t.2 le) (subst (λ (y : ArcKey). b < hi most cuts y) t.2 lt) in
          rw (o.0, o.1, ← h) (omega arith)
      by (inr t) more =
          let s : ◌≡◌ {A = ℕ} (cond (same_arc a x) 1 0) 0 = rw t.0 refl in
          let o = more (omega (arith, e, s)) in
          let r = room-other x t.0 in
          rw (r.0, r.1, ← o) (omega arith)

  -- the halves are left some count
  open-halves : (listed : List ArcKey) → IsOpenBox most cuts listed → lo cuts a ≤ b → b < hi most cuts a → IsOpenBox most below listed × IsOpenBox most beyond listed
  open-halves listed wide le lt = (λ x h. low x (arc_tells a x) (wide x h), λ x h. high x (arc_tells a x) (wide x h))
    where
      low : (x : ArcKey) → Told a x → lo cuts x ≤ hi most cuts x → lo below x ≤ hi most below x
      low x (inl t) o =
          let h = halves x in
          let l : hi most below x ≡ min b (hi most cuts x) = subst (λ (c : Bool). hi most below x ≡ cond c (min b (hi most cuts x)) (hi most cuts x)) t.0 h.low_hi in
          let k = subst (λ (y : ArcKey). lo cuts y ≤ b) t.2 le in
          omega (arith, l, h.low_lo, k, o)
      low x (inr t) o =
          let h = halves x in
          let l : hi most below x ≡ hi most cuts x = subst (λ (c : Bool). hi most below x ≡ cond c (min b (hi most cuts x)) (hi most cuts x)) t.0 h.low_hi in
          omega (arith, l, h.low_lo, o)

      high : (x : ArcKey) → Told a x → lo cuts x ≤ hi most cuts x → lo beyond x ≤ hi most beyond x
      high x (inl t) o =
          let h = halves x in
          let g : lo beyond x ≡ max (lo cuts x) (b + 1) = subst (λ (c : Bool). lo beyond x ≡ max (lo cuts x) (cond c (b + 1) 0)) t.0 h.high_lo in
          let k = subst (λ (y : ArcKey). b < hi most cuts y) t.2 lt in
          omega (arith, g, h.high_hi, k, o)
      high x (inr t) o =
          let h = halves x in
          let g : lo beyond x ≡ max (lo cuts x) 0 = subst (λ (c : Bool). lo beyond x ≡ max (lo cuts x) (cond c (b + 1) 0)) t.0 h.high_lo in
          omega (arith, g, h.high_hi, o)

product-some : (m n k : ℕ) → k ≤ m → 1 ≤ n → k ≤ m * n
product-some m zero k h e = absurd (omega (arith, e))
product-some m (suc n) k h e = let p : m * suc n ≡ m + m * n = omega arith in omega (arith, p, h)

product-more : (m n k : ℕ) → 1 ≤ m → k ≤ n → k ≤ m * n
product-more zero n k h e = absurd (omega (arith, h))
product-more (suc m) n k h e = let p : suc m * n ≡ n + m * n = omega arith in omega (arith, p, e)

-- a box has a point
size-some : (most : ℕ) (cuts : List Cut) (listed : List ArcKey) → IsOpenBox most cuts listed → 1 ≤ size most cuts listed
size-some most cuts [] wide = omega arith
size-some most cuts (a ∷ listed) wide =
    let o = wide a (inl refl) in
    let r : 1 ≤ room most cuts a = omega (arith, o) in
    product-some (room most cuts a) (size most cuts listed) 1 r (size-some most cuts listed (λ x h. wide x (inr h)))

-- and two where an arc is loose
size-two : (most : ℕ) (cuts : List Cut) (listed : List ArcKey) → IsOpenBox most cuts listed → (a : ArcKey) → In a listed → lo cuts a < hi most cuts a → 2 ≤ size most cuts listed
size-two most cuts [] wide a h lt = absurd h
size-two most cuts (x ∷ listed) wide a (inl e) lt =
    let lt2 = subst (λ (y : ArcKey). lo cuts y < hi most cuts y) e lt in
    let r : 2 ≤ room most cuts x = omega (arith, lt2) in
    product-some (room most cuts x) (size most cuts listed) 2 r (size-some most cuts listed (λ y h. wide y (inr h)))
size-two most cuts (x ∷ listed) wide a (inr h) lt =
    let o = wide x (inl refl) in
    let r : 1 ≤ room most cuts x = omega (arith, o) in
    product-more (room most cuts x) (size most cuts listed) 2 r (size-two most cuts listed (λ y k. wide y (inr k)) a h lt)

pub few-nodes : FewNodes
few-nodes most above listed cuts (tip k fresh) once wide forks tips = let s = size-some most cuts listed wide in record { all = omega (arith, s); more = λ h. omega (arith, s) }
few-nodes most above listed cuts (tip k (fixed v)) once wide forks tips = let s = size-some most cuts listed wide in record { all = omega (arith, s); more = λ h. absurd h }
few-nodes most above listed cuts (tip k (valued o)) once wide forks tips =
    let s = size-two most cuts listed wide tips.0 tips.1 tips.2 in record { all = omega (arith, s); more = λ h. omega (arith, s) }
few-nodes most above listed cuts (fork k a b own low high) once wide forks tips =
    let f = forks.0 in
    let o = open-halves most cuts a b listed wide f.1 f.2 in
    let l = few-nodes most (raised above own) listed (cuts ++ low_cut a b ∷ []) low once o.0 forks.1 tips.0 in
    let h = few-nodes most (raised above own) listed (cuts ++ high_cut a b ∷ []) high once o.1 forks.2 tips.1 in
    let s = size-halved most cuts a b f.1 f.2 listed (once a f.0) in
    record {
      all = omega (arith, l.all, h.all, s);
      more = λ wide. pick wide (size most (cuts ++ low_cut a b ∷ []) listed) (size most (cuts ++ high_cut a b ∷ []) listed) s l h;
    }
  where
    pick : SomeTip (λ up path k l. IsOpenLeaf l) above cuts (fork k a b own low high) → (x y : ℕ) → x + y ≡ size most cuts listed
        → IsWithin x (raised above own) (cuts ++ low_cut a b ∷ []) low → IsWithin y (raised above own) (cuts ++ high_cut a b ∷ []) high
        → 1 + busy low + busy high + 2 ≤ 2 * size most cuts listed
    pick (inl some) x y s l h = omega (arith, l.more some, h.all, s)
    pick (inr some) x y s l h = omega (arith, l.all, h.more some, s)
