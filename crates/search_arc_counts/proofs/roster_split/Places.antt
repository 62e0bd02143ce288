-- Counts at places, and the places of the arcs that make a node.
use Rattle.std.proofs.Common.{◌≡◌, ℕ, zero, suc, arith, ◌+◌, ◌-◌, Bool, true, false, cond, List, [], ◌∷◌, Some, length, set, refl, ap, sym, subst, ◌∙◌, inl, inr}
use Rattle.std.specs.Prelude.{slice_get, slice_index}
use Rattle.std.proofs.lemmas.Option.{same_Some}
use Rattle.model_rosters.specs.declared.grammar.ArcKey.{ArcKey}
use Rattle.model_rosters.specs.Arcs.{same_arc}
use Rattle.model_rosters.proofs.arc_laws.SameArc.{Told, arc_tells, same_arc-refl}
use Rattle.model_rosters.specs.arc_laws.Lists.{StandOnce}
use Rattle.model_rosters.proofs.arc_laws.StandOnceLemmas.{once-rest}
use Rattle.tree_graph.specs.Graphs.{places_from}
use Rattle.search_arc_counts.proofs.roster_split.TakenCounts.{taken}
use Rattle.search_arc_counts.specs.roster_split.Counts.{count_of}

-- the count of an arc is that at its place
pub count-at : (arcs : List ArcKey) (counts : List ℕ) → StandOnce arcs → (p : ℕ) (a : ArcKey) → slice_get arcs p ≡ Some a → count_of arcs counts a ≡ slice_index counts p
count-at [] counts once p a e = cc
count-at (x ∷ arcs) [] once p a e = refl
count-at (x ∷ arcs) (c ∷ counts) once zero a e =
    let is : x ≡ a = same_Some x a e in
    let s : same_arc x a ≡ true = subst (λ (y : ArcKey). same_arc x y ≡ true) is (same_arc-refl x) in
    rw s refl
count-at (x ∷ arcs) (c ∷ counts) once (suc p) a e = by (arc_tells x a) (count-at arcs counts (once-rest x arcs once) p a e)
  where
    by : Told x a → count_of arcs counts a ≡ slice_index counts p → cond (same_arc x a) c (count_of arcs counts a) ≡ slice_index counts p
    by (inl t) ih = let z = once 0 (suc p) a (ap Some t.2) e in absurd (omega (arith, z))
    by (inr t) ih = rw t.0 ih

-- one less at its place is one less of the arc
pub count-less : (arcs : List ArcKey) (counts : List ℕ) → StandOnce arcs → (p : ℕ) (key : ArcKey) → slice_get arcs p ≡ Some key → length counts ≡ length arcs
    → (a : ArcKey) → taken key (count_of arcs counts) a ≡ count_of arcs (set counts p (slice_index counts p - 1)) a
count-less [] counts once p key e same a = cc
count-less (x ∷ arcs) [] once p key e same a = absurd (omega (arith, same))
count-less (x ∷ arcs) (c ∷ counts) once zero key e same a =
    subst (λ (k : ArcKey). cond (same_arc x a) c (count_of arcs counts a) - cond (same_arc a k) 1 0 ≡ cond (same_arc x a) (c - 1) (count_of arcs counts a)) (same_Some x key e) (by (arc_tells x a))
  where
    by : Told x a → cond (same_arc x a) c (count_of arcs counts a) - cond (same_arc a x) 1 0 ≡ cond (same_arc x a) (c - 1) (count_of arcs counts a)
    by (inl t) = rw (t.0, t.1) refl
    by (inr t) = rw (t.0, t.1) (omega arith)
count-less (x ∷ arcs) (c ∷ counts) once (suc p) key e same a = by (arc_tells x a) (arc_tells a key) (count-less arcs counts (once-rest x arcs once) p key e (omega (arith, same)) a)
  where
    by : Told x a → Told a key → taken key (count_of arcs counts) a ≡ count_of arcs (set counts p (slice_index counts p - 1)) a
        → cond (same_arc x a) c (count_of arcs counts a) - cond (same_arc a key) 1 0 ≡ cond (same_arc x a) c (count_of arcs (set counts p (slice_index counts p - 1)) a)
    by (inl t) (inl u) ih = let z = once 0 (suc p) key (ap Some (t.2 ∙ u.2)) e in absurd (omega (arith, z))
    by (inl t) (inr u) ih = rw (t.0, u.0) (omega arith)
    by (inr t) u ih = rw t.0 ih

module _ {A : Type 0} (p : A → Bool) where
  -- a place that is listed is that of an item that passes
  pub places-sound : (n : ℕ) (xs : List A) (k q : ℕ) → slice_get (places_from n p xs) k ≡ Some q → (j : ℕ) × (x : A) × (q ≡ n + j) × (slice_get xs j ≡ Some x) × (p x ≡ true)
  places-sound n [] k q e = cc
  places-sound n (x ∷ xs) k q e = by (p x) refl k e (λ i h. places-sound (n + 1) xs i q h)
    where
      further : ((j : ℕ) × (y : A) × (q ≡ n + 1 + j) × (slice_get xs j ≡ Some y) × (p y ≡ true)) → (j : ℕ) × (y : A) × (q ≡ n + j) × (slice_get (x ∷ xs) j ≡ Some y) × (p y ≡ true)
      further r = (suc r.0, r.1, omega (arith, r.2), r.3, r.4)

      by : (b : Bool) → p x ≡ b → (k : ℕ) → slice_get (cond b (n ∷ places_from (n + 1) p xs) (places_from (n + 1) p xs)) k ≡ Some q
          → ((i : ℕ) → slice_get (places_from (n + 1) p xs) i ≡ Some q → (j : ℕ) × (y : A) × (q ≡ n + 1 + j) × (slice_get xs j ≡ Some y) × (p y ≡ true))
          → (j : ℕ) × (y : A) × (q ≡ n + j) × (slice_get (x ∷ xs) j ≡ Some y) × (p y ≡ true)
      by true f zero h more = (0, x, let g : n ≡ q = same_Some n q h in omega (arith, g), refl, f)
      by true f (suc i) h more = further (more i h)
      by false f i h more = further (more i h)

  -- and the place of each item that passes is listed
  pub places-whole : (n : ℕ) (xs : List A) (j : ℕ) (x : A) → slice_get xs j ≡ Some x → p x ≡ true → (k : ℕ) × (slice_get (places_from n p xs) k ≡ Some (n + j))
  places-whole n [] j x e t = cc
  places-whole n (y ∷ xs) zero x e t =
      let s : p y ≡ true = subst (λ (z : A). p z ≡ true) (sym (same_Some y x e)) t in
      let z : n ≡ n + 0 = omega arith in
      (0, rw s (ap Some z))
  places-whole n (y ∷ xs) (suc j) x e t = by (p y) refl (places-whole (n + 1) xs j x e t)
    where
      z : n + 1 + j ≡ n + suc j
      z = omega arith

      by : (b : Bool) → p y ≡ b → ((k : ℕ) × (slice_get (places_from (n + 1) p xs) k ≡ Some (n + 1 + j))) → (k : ℕ) × (slice_get (cond b (n ∷ places_from (n + 1) p xs) (places_from (n + 1) p xs)) k ≡ Some (n + suc j))
      by true f r = (suc r.0, r.1 ∙ ap Some z)
      by false f r = (r.0, r.1 ∙ ap Some z)
