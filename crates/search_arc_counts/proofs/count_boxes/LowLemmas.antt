-- The arcs of a graph and their bounds, place by place.
use Rattle.std.proofs.Common.{◌≡◌, ℕ, zero, suc, arith, ◌≤◌, Bool, true, false, cond, List, [], ◌∷◌, Some, All, length, refl, subst, sym, inl, inr}
use Rattle.std.specs.Prelude.{slice_get}
use Rattle.std.proofs.lemmas.List.Elements.{All-head, All-tail}
use Rattle.std.proofs.lemmas.Option.{same_Some}
use Rattle.model_rosters.specs.declared.grammar.ArcKey.{ArcKey}
use Rattle.model_rosters.specs.Folds.{In}
use Rattle.model_rosters.specs.Arcs.{same_arc}
use Rattle.model_rosters.proofs.EachLemmas.{get-in}
use Rattle.model_rosters.proofs.arc_laws.SameArc.{Told, arc_tells, same_arc-refl}
use Rattle.model_rosters.specs.arc_laws.Lists.{StandOnce}
use Rattle.model_rosters.proofs.arc_laws.StandOnceLemmas.{once-rest, once-apart}
use Rattle.search_arc_counts.specs.declared.count_boxes.bounds.Bounds.{Bounds}
use Rattle.search_arc_counts.specs.count_boxes.Boxes.{bounds_at, IsSmall}
use Rattle.search_arc_counts.specs.count_boxes.Costs.{low_of}

-- the least count of an arc is that at its place
pub low-at : (xs : List ArcKey) (bounds : List Bounds) → length bounds ≡ length xs → StandOnce xs → (p : ℕ) (a : ArcKey) → slice_get xs p ≡ Some a → low_of xs bounds a ≡ (bounds_at bounds p).low
low-at [] bounds same once p a e = cc
low-at (x ∷ xs) [] same once p a e = absurd (omega (arith, same))
low-at (x ∷ xs) (b ∷ bounds) same once zero a e =
    let is : x ≡ a = same_Some x a e in
    let yes : same_arc x a ≡ true = subst (λ (y : ArcKey). same_arc x y ≡ true) is (same_arc-refl x) in
    rw yes refl
low-at (x ∷ xs) (b ∷ bounds) same once (suc p) a e =
    by (arc_tells x a) (low-at xs bounds (omega (arith, same)) (once-rest x xs once) p a e)
  where
    by : Told x a → low_of xs bounds a ≡ (bounds_at bounds p).low → cond (same_arc x a) b.low (low_of xs bounds a) ≡ (bounds_at bounds p).low
    by (inl t) ih = absurd (once-apart x xs once (subst (λ (y : ArcKey). In y xs) (sym t.2) (get-in xs p a e)))
    by (inr t) ih = rw t.0 ih

-- no least count is large
pub low-small : (xs : List ArcKey) (bounds : List Bounds) → All IsSmall bounds → (a : ArcKey) → low_of xs bounds a ≤ 64
low-small [] bounds h a = omega arith
low-small (x ∷ xs) [] h a = omega arith
low-small (x ∷ xs) (b ∷ bounds) h a = by (same_arc x a) (All-head IsSmall b bounds h).0 (low-small xs bounds (All-tail IsSmall b bounds h) a)
  where
    by : (s : Bool) → b.low ≤ 64 → low_of xs bounds a ≤ 64 → cond s b.low (low_of xs bounds a) ≤ 64
    by true here ih = here
    by false here ih = ih
