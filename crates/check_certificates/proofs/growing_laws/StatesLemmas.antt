-- What a search knows of its tree is kept by each turn, and is what the certificate needs at the end.
use Rattle.std.proofs.Common.{◌≡◌, ℕ, zero, suc, arith, ◌+◌, ◌*◌, ◌≤◌, ◌<◌, max, Bool, true, false, cond, Option, None, Some, List, [], ◌∷◌, ◌++◌, refl, ap, sym, subst, ◌∙◌, ◌⊎◌, inl, inr}
use Rattle.std.specs.Prelude.{◌≢◌, nat_eq}
use Rattle.std.proofs.lemmas.Bool.{eq-eqb}
use Rattle.model_rosters.specs.declared.grammar.ArcKey.{ArcKey}
use Rattle.model_rosters.specs.declared.instance.Cut.{Cut}
use Rattle.model_rosters.specs.declared.instance.Instance.{Instance}
use Rattle.model_rosters.specs.Cuts.{base_cuts}
use Rattle.model_rosters.specs.Folds.{Each}
use Rattle.model_rosters.proofs.arc_laws.SameArc.{rising-once}
use Rattle.check_certificates.specs.Nodes.{Visit, visits, low_cut, high_cut}
use Rattle.check_certificates.specs.certificate_laws.Accepted.{IsOnArc, LeavesBoth, IsTight}
use Rattle.check_certificates.specs.growing_laws.Grown.{Grown, tip, fork, Leaf, fresh, valued, fixed, Own, OnTips, OnForks, SomeTip, IsRightLeaf, IsRightOwn, raised, tip_bound, leaf_proof, times, put, shown}
use Rattle.check_certificates.specs.growing_laws.Boxes.{IsHalving, IsLooseLeaf, IsOpenLeaf}
use Rattle.check_certificates.specs.growing_laws.States.{IsLeaf, IsOwn, IsSplit, IsTip, IsGrowing, IsGraft, GrowingPut, GrowingRaised, OwnShows, IsGrownProof, GrowingProves, GrowingClosed, GrowingFew}
use Rattle.check_certificates.proofs.growing_laws.GrownLemmas.{TipFact, told, tips-map, forks-map, some-both, put-tips, put-forks, grown-shows, grown-visits, least-bound}
use Rattle.check_certificates.proofs.growing_laws.NodeCounts.{put-times}
use Rattle.check_certificates.proofs.growing_laws.BoxesLemmas.{few-nodes}
use Rattle.law_bounds.proofs.BaseCuts.{base-open}
use Rattle.check_certificates.proofs.growing_laws.Base.{size_le}

pub tips-both : (P Q R : TipFact) → ((up : ℕ) (path : List Cut) (k : ℕ) (l : Leaf) → P up path k l → Q up path k l → R up path k l) → (above : ℕ) (cuts : List Cut) (t : Grown)
    → OnTips P above cuts t → OnTips Q above cuts t → OnTips R above cuts t
tips-both P Q R f above cuts (tip k l) p q = f above cuts k l p q
tips-both P Q R f above cuts (fork k a b own low high) p q =
    (tips-both P Q R f (raised above own) (cuts ++ low_cut a b ∷ []) low p.0 q.0, tips-both P Q R f (raised above own) (cuts ++ high_cut a b ∷ []) high p.1 q.1)

-- a fact of some leaf that does not speak of it
pub some-fact : (C : Type 0) (above : ℕ) (cuts : List Cut) (t : Grown) → SomeTip (λ up path k l. C) above cuts t → C
some-fact C above cuts (tip k l) h = h
some-fact C above cuts (fork k a b own low high) (inl h) = some-fact C (raised above own) (cuts ++ low_cut a b ∷ []) low h
some-fact C above cuts (fork k a b own low high) (inr h) = some-fact C (raised above own) (cuts ++ high_cut a b ∷ []) high h

-- a number that no leaf has
none-times : (j above : ℕ) (cuts : List Cut) (t : Grown) → OnTips (λ up path k l. k ≢ j) above cuts t → times j t ≡ 0
none-times j above cuts (tip k l) h = by (told k j)
  where
    by : (k ≡ j) × (nat_eq k j ≡ true) ⊎ (k ≢ j) × (nat_eq k j ≡ false) → ◌≡◌ {A = ℕ} (cond (nat_eq k j) 1 0) 0
    by (inl e) = absurd (h e.0)
    by (inr e) = rw e.1 refl
none-times j above cuts (fork k a b own low high) h =
    let p = none-times j (raised above own) (cuts ++ low_cut a b ∷ []) low h.0 in
    let q = none-times j (raised above own) (cuts ++ high_cut a b ∷ []) high h.1 in
    omega (arith, p, q)

-- the leaf of a number that some leaf has
find-tip : (P : TipFact) (j above : ℕ) (cuts : List Cut) (t : Grown) → OnTips P above cuts t → 1 ≤ times j t → (up : ℕ) × (path : List Cut) × (l : Leaf) × P up path j l
find-tip P j above cuts (tip k l) h some = by (told k j) some
  where
    by : (k ≡ j) × (nat_eq k j ≡ true) ⊎ (k ≢ j) × (nat_eq k j ≡ false) → 1 ≤ cond (nat_eq k j) 1 0 → (up : ℕ) × (path : List Cut) × (l : Leaf) × P up path j l
    by (inl e) s = (above, cuts, l, subst (λ (n : ℕ). P above cuts n l) e.0 h)
    by (inr e) s = let z : ◌≡◌ {A = ℕ} (cond (nat_eq k j) 1 0) 0 = rw e.1 refl in absurd (omega (arith, s, z))
find-tip P j above cuts (fork k a b own low high) h some =
    by (times j low) refl (λ s. find-tip P j (raised above own) (cuts ++ low_cut a b ∷ []) low h.0 s) (λ s. find-tip P j (raised above own) (cuts ++ high_cut a b ∷ []) high h.1 s)
  where
    by : (n : ℕ) → times j low ≡ n → (1 ≤ times j low → (up : ℕ) × (path : List Cut) × (l : Leaf) × P up path j l) → (1 ≤ times j high → (up : ℕ) × (path : List Cut) × (l : Leaf) × P up path j l)
        → (up : ℕ) × (path : List Cut) × (l : Leaf) × P up path j l
    by zero e f g = g (omega (arith, some, e))
    by (suc n) e f g = f (omega (arith, e))

module _ (i : Instance) (strict : Bool) (limit low m n k : ℕ) (new t : Grown) (is : IsGrowing i strict limit low m t) (le : m ≤ n) (one : times k t ≡ 1)
    (grafts : OnTips (λ up path j l. j ≡ k → IsGraft i strict limit low m n k new up path) 0 (base_cuts i) t) where
  -- how often a number stands then
  counted : (j : ℕ) → times j (put k new t) + cond (nat_eq j k) 1 0 ≡ times j t + times j new
  counted j =
      let e = put-times j k new t in
      let p : times k t * times j new ≡ times j new = rw one (omega arith) in
      let q = ap (λ (x : ℕ). cond (nat_eq j k) x 0) one in
      omega (arith, e, p, q)

  old_none : (j : ℕ) → m ≤ j → times j t ≡ 0
  old_none j above = none-times j 0 (base_cuts i) t
      (tips-map (IsTip i limit low m t) (λ up path x l. x ≢ j) (λ up path x l h e. omega (arith, h.below, above, e)) 0 (base_cuts i) t is.tips)

  graft : (up : ℕ) × (path : List Cut) × (l : Leaf) × (k ≡ k → IsGraft i strict limit low m n k new up path)
  graft = find-tip (λ up path j l. j ≡ k → IsGraft i strict limit low m n k new up path) k 0 (base_cuts i) t grafts (omega (arith, one))

  new_none : (j : ℕ) → j < m → j ≢ k → times j new ≡ 0
  new_none j below ne =
      let g = graft in
      none-times j g.0 g.1 new (tips-map (λ above cuts x l. IsTip i limit low n new above cuts x l × ((x ≡ k) ⊎ (m ≤ x))) (λ up path x l. x ≢ j) (λ up path x l h e. apart x h.1 e) g.0 g.1 new (g.3 refl).tips)
    where
      apart : (x : ℕ) → (x ≡ k) ⊎ (m ≤ x) → x ≡ j → ⊥
      apart x (inl h) e = ne (sym e ∙ h)
      apart x (inr h) e = omega (arith, h, e, below)

  once-new : (j : ℕ) → times j new ≡ 1 → (j ≡ k) ⊎ (m ≤ j) → times j (put k new t) ≡ 1
  once-new j e (inl h) =
      let s : ◌≡◌ {A = ℕ} (cond (nat_eq j k) 1 0) 1 = rw (eq-eqb j k h) refl in
      let c = counted j in
      let f = ap (λ (x : ℕ). times x t) h in
      omega (arith, s, c, f, one, e)
  once-new j e (inr h) = by (told j k)
    where
      by : (j ≡ k) × (nat_eq j k ≡ true) ⊎ (j ≢ k) × (nat_eq j k ≡ false) → times j (put k new t) ≡ 1
      by (inl q) = let z = old_none j h in let f = ap (λ (x : ℕ). times x t) q.0 in absurd (omega (arith, z, f, one))
      by (inr q) = let s : ◌≡◌ {A = ℕ} (cond (nat_eq j k) 1 0) 0 = rw q.1 refl in let c = counted j in let z = old_none j h in omega (arith, s, c, z, e)

  once-old : (j : ℕ) → times j t ≡ 1 → j < m → j ≢ k → times j (put k new t) ≡ 1
  once-old j e below ne = by (told j k)
    where
      by : (j ≡ k) × (nat_eq j k ≡ true) ⊎ (j ≢ k) × (nat_eq j k ≡ false) → times j (put k new t) ≡ 1
      by (inl q) = absurd (ne q.0)
      by (inr q) = let s : ◌≡◌ {A = ℕ} (cond (nat_eq j k) 1 0) 0 = rw q.1 refl in let c = counted j in let z = new_none j below ne in omega (arith, s, c, z, e)

  kept : IsGrowing i strict limit low n (put k new t)
  kept = record {
    tips = put-tips (IsTip i limit low n (put k new t)) k new 0 (base_cuts i) t
        (tips-both (λ up path j l. j ≡ k → IsGraft i strict limit low m n k new up path) (IsTip i limit low m t)
        (λ up path j l. (j ≡ k → OnTips (IsTip i limit low n (put k new t)) up path new) × (j ≢ k → IsTip i limit low n (put k new t) up path j l))
        (λ up path j l g h. (
          λ e. tips-map (λ above cuts x y. IsTip i limit low n new above cuts x y × ((x ≡ k) ⊎ (m ≤ x))) (IsTip i limit low n (put k new t))
              (λ above cuts x y w. record { leaf = w.0.leaf; bound = w.0.bound; below = w.0.below; once = once-new x w.0.once w.1 }) up path new (g e).tips,
          λ ne. record { leaf = h.leaf; bound = h.bound; below = omega (arith, h.below, le); once = once-old j h.once h.below ne },
        )) 0 (base_cuts i) t grafts is.tips);
    forks = put-forks (IsSplit i strict low) k new 0 (base_cuts i) t
        (tips-map (λ up path j l. j ≡ k → IsGraft i strict limit low m n k new up path) (λ up path j l. j ≡ k → OnForks (IsSplit i strict low) path new) (λ up path j l g e. (g e).forks) 0 (base_cuts i) t grafts) is.forks;
  }

pub growing-put : GrowingPut
growing-put i strict limit low m n k new t is le one grafts = kept i strict limit low m n k new t is le one grafts

leaf-less : (i : Instance) (limit less : ℕ) (path : List Cut) (l : Leaf) → less ≤ limit → IsLeaf i limit path l → IsLeaf i less path l
leaf-less i limit less path fresh le h = tt
leaf-less i limit less path (valued o) le h = h
leaf-less i limit less path (fixed v) le h = (h.0, h.1, omega (arith, h.2, le))

own-more : (i : Instance) (strict : Bool) (low more : ℕ) (path : List Cut) (a : ArcKey) (b : ℕ) (own : Option Own) → low ≤ more → IsOwn i strict low path a b own → IsOwn i strict more path a b own
own-more i strict low more path a b None le h = h
own-more i strict low more path a b (Some o) le h = (h.0, h.1, omega (arith, h.2, le))

pub growing-raised : GrowingRaised
growing-raised i strict limit less low more n t is le up bounds = record {
  tips = tips-both (λ up path k l. more ≤ tip_bound up l) (IsTip i limit low n t) (IsTip i less more n t)
      (λ up path k l b h. record { leaf = leaf-less i limit less path l le h.leaf; bound = b; below = h.below; once = h.once }) 0 (base_cuts i) t bounds is.tips;
  forks = forks-map (IsSplit i strict low) (IsSplit i strict more) (λ path a b own h. (h.0, own-more i strict low more path a b own up h.1)) (base_cuts i) t is.forks;
}

module _ (i : Instance) (strict : Bool) (limit low n : ℕ) (t : Grown) (is : IsGrowing i strict limit low n t) where
  right_leaf : (path : List Cut) (l : Leaf) → IsLeaf i limit path l → IsRightLeaf i path l
  right_leaf path fresh h = tt
  right_leaf path (valued o) h = h.0.value
  right_leaf path (fixed v) h = h.1

  right_own : (path : List Cut) (a : ArcKey) (b : ℕ) (own : Option Own) → IsOwn i strict low path a b own → IsRightOwn i path own
  right_own path a b None h = tt
  right_own path a b (Some o) h = h.0.value

  own_at : (path : List Cut) (a : ArcKey) (b : ℕ) (own : Option Own) (v : ℕ) → low ≤ v → IsOwn i strict low path a b own → OwnShows v own
  own_at path a b None v le h = tt
  own_at path a b (Some o) v le h = omega (arith, h.2, le)

  leaf_arcs : (path : List Cut) (l : Leaf) → Each (λ (v : Visit). IsOnArc i v.node) (visits path (leaf_proof l))
  leaf_arcs path fresh = (tt, tt)
  leaf_arcs path (valued o) = (tt, tt)
  leaf_arcs path (fixed v) = (tt, tt)

  leaf_halves : (path : List Cut) (l : Leaf) → Each (λ (v : Visit). LeavesBoth i v.path v.node) (visits path (leaf_proof l))
  leaf_halves path fresh = (tt, tt)
  leaf_halves path (valued o) = (tt, tt)
  leaf_halves path (fixed v) = (tt, tt)

  leaf_tight : (path : List Cut) (l : Leaf) → IsLeaf i limit path l → Each (λ (v : Visit). IsTight i v.path v.node) (visits path (leaf_proof l))
  leaf_tight path fresh h = (tt, tt)
  leaf_tight path (valued o) h = (tt, tt)
  leaf_tight path (fixed v) h = (h.0, tt)

  -- each leaf leaves a bound of at least v, so the tree shows v
  shown_at : (v : ℕ) → OnTips (λ up path k l. v ≤ tip_bound up l) 0 (base_cuts i) t → v ≤ shown t
  shown_at v h =
      let b = least-bound 0 (base_cuts i) t in
      let e : v ≤ max 0 (shown t) = some-fact (v ≤ max 0 (shown t)) 0 (base_cuts i) t
      (some-both (λ up path k l. v ≤ tip_bound up l) (λ up path k l. tip_bound up l ≡ max 0 (shown t)) (λ up path k l. v ≤ max 0 (shown t)) (λ up path k l p q. omega (arith, p, q)) 0 (base_cuts i) t h b.attained) in
      omega (arith, e)

  proves : IsGrownProof i t
  proves = record {
    on_arcs = grown-visits (λ (v : Visit). IsOnArc i v.node) 0 (base_cuts i) t (tips-map (IsTip i limit low n t) _ (λ up path k l h. leaf_arcs path l) 0 (base_cuts i) t is.tips)
        (forks-map (IsSplit i strict low) _ (λ path a b own h. h.0.arc) (base_cuts i) t is.forks);
    halves = grown-visits (λ (v : Visit). LeavesBoth i v.path v.node) 0 (base_cuts i) t (tips-map (IsTip i limit low n t) _ (λ up path k l h. leaf_halves path l) 0 (base_cuts i) t is.tips)
        (forks-map (IsSplit i strict low) _ (λ path a b own h. (h.0.low, h.0.high)) (base_cuts i) t is.forks);
    tight = grown-visits (λ (v : Visit). IsTight i v.path v.node) 0 (base_cuts i) t (tips-map (IsTip i limit low n t) _ (λ up path k l h. leaf_tight path l h.leaf) 0 (base_cuts i) t is.tips)
        (forks-map (IsSplit i strict low) _ (λ path a b own h. tt) (base_cuts i) t is.forks);
    shows = grown-shows i 0 (base_cuts i) t (tips-map (IsTip i limit low n t) (λ up path k l. IsRightLeaf i path l) (λ up path k l h. right_leaf path l h.leaf) 0 (base_cuts i) t is.tips)
        (forks-map (IsSplit i strict low) (λ path a b own. IsRightOwn i path own) (λ path a b own h. right_own path a b own h.1) (base_cuts i) t is.forks);
    owns = let le = shown_at low (tips-map (IsTip i limit low n t) (λ up path k l. low ≤ tip_bound up l) (λ up path k l h. h.bound) 0 (base_cuts i) t is.tips) in
        forks-map (IsSplit i strict low) (λ path a b own. OwnShows (shown t) own) (λ path a b own h. own_at path a b own (shown t) le h.1) (base_cuts i) t is.forks;
  }

  closed : OnTips (λ up path k l. IsOpenLeaf l → limit ≤ tip_bound up l) 0 (base_cuts i) t → limit ≤ shown t
  closed h = shown_at limit (tips-both (λ up path k l. IsOpenLeaf l → limit ≤ tip_bound up l) (IsTip i limit low n t) (λ up path k l. limit ≤ tip_bound up l) (λ up path k l p q. at up path l p q.leaf) 0 (base_cuts i) t h is.tips)
    where
      at : (up : ℕ) (path : List Cut) (l : Leaf) → (IsOpenLeaf l → limit ≤ tip_bound up l) → IsLeaf i limit path l → limit ≤ tip_bound up l
      at up path fresh p q = p tt
      at up path (valued o) p q = p tt
      at up path (fixed v) p q = omega (arith, q.2)

pub growing-proves : GrowingProves
growing-proves i strict limit low n t is = proves i strict limit low n t is

pub growing-closed : GrowingClosed
growing-closed i strict limit low n t is h = closed i strict limit low n t is h

pub growing-few : GrowingFew
growing-few i strict limit low n points t sound is points_are some =
    let few = few-nodes i.heads_max 0 points_are.listed (base_cuts i) t (rising-once points_are.listed points_are.are.rising) (λ a h. base-open i a sound)
    (forks-map (IsSplit i strict low) (IsHalving i.heads_max points_are.listed) (λ path a b own h. (points_are.are.whole a h.0.arc, h.0.low, h.0.high)) (base_cuts i) t is.forks)
    (tips-map (IsTip i limit low n t) (λ up path k l. IsLooseLeaf i.heads_max points_are.listed path l) (λ up path k l h. loose path l h.leaf) 0 (base_cuts i) t is.tips) in
    let le = size_le i.heads_max (base_cuts i) points_are.listed in
    let e = points_are.value in
    let m = few.more some in
    omega (arith, le, e, m)
  where
    loose : (path : List Cut) (l : Leaf) → IsLeaf i limit path l → IsLooseLeaf i.heads_max points_are.listed path l
    loose path fresh h = tt
    loose path (fixed v) h = tt
    loose path (valued o) h = (h.1.0, points_are.are.whole h.1.0 h.1.1, h.1.2)
