-- Sums by arcs, one arc and one weight after the other.
use Rattle.std.proofs.Common.{rules, ◌≡◌, ℕ, zero, suc, arith, ◌*◌, ◌+◌, ◌^◌, ◌<◌, ◌≢◌, Bool, true, false, cond, List, [], ◌∷◌, Some, None, Option, drop, set, length, ap, sym, subst, refl, ◌∙◌, inl, inr}
use Rattle.std.specs.Prelude.{slice_get, slice_index}
use Rattle.std.proofs.lemmas.Option.{same_Some}
use Rattle.std.proofs.lemmas.List.{get_or-set_same, get_or-set_other}
use Rattle.model_rosters.specs.declared.grammar.ArcKey.{ArcKey}
use Rattle.model_rosters.specs.Folds.{count, In}
use Rattle.model_rosters.specs.Arcs.{same_arc}
use Rattle.model_rosters.proofs.EachLemmas.{get-in}
use Rattle.model_rosters.proofs.arc_laws.SameArc.{Told, arc_tells, same_arc-refl}
use Rattle.model_rosters.specs.arc_laws.Lists.{StandOnce}
use Rattle.tree_pool.specs.Pools.{PoolTree}
use Rattle.search_node_columns.specs.declared.weights.Weight.{Weight}
use Rattle.search_arc_weights.specs.Sums.{unit, arcs_of_some, arcs_at, arc_units, HaveRoom, AreInPool, AreSums}
use Rattle.search_arc_weights.specs.Loops.{AreAddedBefore, AreSummedBefore}

-- what stands at a place is within the list
pub get_lt : {A : Type 0} (xs : List A) (p : ℕ) (x : A) → slice_get xs p ≡ Some x → p < length xs
get_lt [] p x e = cc
get_lt (y ∷ xs) zero x e = omega arith
get_lt (y ∷ xs) (suc p) x e = omega (arith, get_lt xs p x e)

times_one : (u b : ℕ) → u * (1 + b) ≡ u + u * b
times_one u b = omega arith

module _ (listed : List ArcKey) (units : ℕ) (added : List ArcKey) (old sums : List ℕ) (k : ℕ) (arc : ArcKey)
    (at : drop k added ≡ arc ∷ drop (k + 1) added) (before : AreAddedBefore listed units added old k sums) where
  -- what is still to be added to the sum at a place
  left_at : (p : ℕ) (a : ArcKey) → slice_get listed p ≡ Some a
      → slice_index sums p + units * (cond (same_arc a arc) 1 0 + count (same_arc a) (drop (k + 1) added)) ≡ slice_index old p + units * count (same_arc a) added
  left_at p a e = subst (λ (xs : List ArcKey). slice_index sums p + units * count (same_arc a) xs ≡ slice_index old p + units * count (same_arc a) added) at (before.sums p a e)

  module _ (place : ℕ) (found : slice_get listed place ≡ Some arc) (each : length old ≡ length listed) where
    pub place_within : place < length sums
    place_within = omega (arith, before.each, get_lt listed place arc found)

    pub sum_fits : HaveRoom listed units added old → slice_index sums place + units < 2 ^ 128
    sum_fits room =
        let l = left_at place arc found in
        let r = room place arc found in
        by (same_arc arc arc) (same_arc-refl arc) l r
      where
        by : (b : Bool) → b ≡ true → slice_index sums place + units * (cond b 1 0 + count (same_arc arc) (drop (k + 1) added)) ≡ slice_index old place + units * count (same_arc arc) added
            → slice_index old place + units * count (same_arc arc) added < 2 ^ 128 → slice_index sums place + units < 2 ^ 128
        by true e l r = let t = times_one units (count (same_arc arc) (drop (k + 1) added)) in omega (arith, l, r)
        by false e l r = cc

    pub sum_added : StandOnce listed → AreAddedBefore listed units added old (k + 1) (set sums place (slice_index sums place + units))
    sum_added once = record {
      each = length-set-is ∙ before.each;
      sums = λ p a e. by p a e (arc_tells a arc) (left_at p a e);
    }
      where
        length-set-is : length (set sums place (slice_index sums place + units)) ≡ length sums
        length-set-is = search rules

        by : (p : ℕ) (a : ArcKey) → slice_get listed p ≡ Some a → Told a arc
            → slice_index sums p + units * (cond (same_arc a arc) 1 0 + count (same_arc a) (drop (k + 1) added)) ≡ slice_index old p + units * count (same_arc a) added
            → slice_index (set sums place (slice_index sums place + units)) p + units * count (same_arc a) (drop (k + 1) added) ≡ slice_index old p + units * count (same_arc a) added
        by p a e (inl t) l =
            let q : p ≡ place = once p place arc (e ∙ ap Some t.2) found in
            let s : slice_index (set sums place (slice_index sums place + units)) p ≡ slice_index sums place + units =
            subst (λ (j : ℕ). slice_index (set sums place (slice_index sums place + units)) j ≡ slice_index sums place + units) (sym q) (get_or-set_same sums place (slice_index sums place + units) 0 place_within) in
            let l' : slice_index sums place + units * (1 + count (same_arc a) (drop (k + 1) added)) ≡ slice_index old p + units * count (same_arc a) added =
            subst (λ (j : ℕ). slice_index sums j + units * (1 + count (same_arc a) (drop (k + 1) added)) ≡ slice_index old p + units * count (same_arc a) added) q (rw t.0 at l) in
            let t1 = times_one units (count (same_arc a) (drop (k + 1) added)) in
            rw s (omega (arith, l'))
        by p a e (inr t) l =
            let apart : p ≢ place = λ q. true≢ (sym (ap (λ (x : ArcKey). same_arc x arc) (same_Some a arc (sym e ∙ ap (λ (j : ℕ). slice_get listed j) q ∙ found))) ∙ t.0) in
            let l' : slice_index sums p + units * (0 + count (same_arc a) (drop (k + 1) added)) ≡ slice_index old p + units * count (same_arc a) added = rw t.0 at l in
            rw (get_or-set_other sums place p (slice_index sums place + units) 0 apart) (omega (arith, l'))
          where
            true≢ : same_arc arc arc ≡ false → ⊥
            true≢ f = let y = same_arc-refl arc in cc

  -- an arc that is none of the graph
  pub none_added : (In arc listed → ⊥) → AreAddedBefore listed units added old (k + 1) sums
  none_added absent = record { each = before.each; sums = λ p a e. by p a e (arc_tells a arc) (left_at p a e) }
    where
      by : (p : ℕ) (a : ArcKey) → slice_get listed p ≡ Some a → Told a arc
          → slice_index sums p + units * (cond (same_arc a arc) 1 0 + count (same_arc a) (drop (k + 1) added)) ≡ slice_index old p + units * count (same_arc a) added
          → slice_index sums p + units * count (same_arc a) (drop (k + 1) added) ≡ slice_index old p + units * count (same_arc a) added
      by p a e (inl t) l = absurd (absent (subst (λ (x : ArcKey). In x listed) t.2 (get-in listed p a e)))
      by p a e (inr t) l = let l' : slice_index sums p + units * (0 + count (same_arc a) (drop (k + 1) added)) ≡ slice_index old p + units * count (same_arc a) added = rw t.0 at l in omega (arith, l')

-- the arcs are added
pub all_added : (listed : List ArcKey) (units : ℕ) (added : List ArcKey) (old sums : List ℕ) (k : ℕ) → drop k added ≡ [] → AreAddedBefore listed units added old k sums
    → (p : ℕ) (a : ArcKey) → slice_get listed p ≡ Some a → slice_index sums p ≡ slice_index old p + units * count (same_arc a) added
all_added listed units added old sums k end before p a e =
    let l : slice_index sums p + units * 0 ≡ slice_index old p + units * count (same_arc a) added =
    subst (λ (xs : List ArcKey). slice_index sums p + units * count (same_arc a) xs ≡ slice_index old p + units * count (same_arc a) added) end (before.sums p a e) in
    omega (arith, l)

module _ (d : ℕ) (listed : List ArcKey) (columns : List PoolTree) (weights : List Weight) (k : ℕ) (sums : List ℕ) (x : Weight)
    (at : drop k weights ≡ x ∷ drop (k + 1) weights) (before : AreSummedBefore d listed columns weights k sums) (arcs : List ArcKey)
    (are : (t : PoolTree) → slice_get columns x.column ≡ Some t → arcs ≡ t.arcs) where
  first_left : AreInPool d columns (x ∷ drop (k + 1) weights)
  first_left = subst (λ (xs : List Weight). AreInPool d columns xs) at before.left

  arcs_is : arcs ≡ arcs_at columns x.column
  arcs_is = by (slice_get columns x.column) refl
    where
      there : {A : Type 0} (xs : List A) (p : ℕ) → p < length xs → slice_get xs p ≡ None → ⊥
      there [] p l e = absurd (omega arith)
      there (y ∷ xs) zero l e = cc
      there (y ∷ xs) (suc p) l e = there xs p (omega arith) e

      by : (o : Option PoolTree) → slice_get columns x.column ≡ o → arcs ≡ arcs_of_some o
      by None e = absurd (there columns x.column first_left.0.0 e)
      by (Some t) e = are t e

  left_sum : (p : ℕ) (a : ArcKey) → slice_get listed p ≡ Some a
      → slice_index sums p + (unit d x * count (same_arc a) arcs + arc_units d columns a (drop (k + 1) weights)) ≡ arc_units d columns a weights
  left_sum p a e =
      let l : slice_index sums p + arc_units d columns a (x ∷ drop (k + 1) weights) ≡ arc_units d columns a weights =
      subst (λ (xs : List Weight). slice_index sums p + arc_units d columns a xs ≡ arc_units d columns a weights) at (before.are p a e) in
      subst (λ (ys : List ArcKey). slice_index sums p + (unit d x * count (same_arc a) ys + arc_units d columns a (drop (k + 1) weights)) ≡ arc_units d columns a weights) (sym arcs_is) l

  pub room_left : ((p : ℕ) (a : ArcKey) → slice_get listed p ≡ Some a → arc_units d columns a weights < 2 ^ 128) → HaveRoom listed (unit d x) arcs sums
  room_left room p a e = let l = left_sum p a e in let r = room p a e in omega (arith, l, r)

  pub next_summed : (new : List ℕ) → length new ≡ length sums → ((p : ℕ) (a : ArcKey) → slice_get listed p ≡ Some a → slice_index new p ≡ slice_index sums p + unit d x * count (same_arc a) arcs)
      → AreSummedBefore d listed columns weights (k + 1) new
  next_summed new each added = record {
    each = each ∙ before.each;
    left = first_left.1;
    are = λ p a e. let l = left_sum p a e in let n = added p a e in omega (arith, l, n);
  }

pub all_summed : (d : ℕ) (listed : List ArcKey) (columns : List PoolTree) (weights : List Weight) (k : ℕ) (sums : List ℕ) → drop k weights ≡ []
    → AreSummedBefore d listed columns weights k sums → AreSums d listed columns weights sums
all_summed d listed columns weights k sums end before = record {
  each = before.each;
  are = λ p a e.
      let l : slice_index sums p + 0 ≡ arc_units d columns a weights = subst (λ (xs : List Weight). slice_index sums p + arc_units d columns a xs ≡ arc_units d columns a weights) end (before.are p a e) in
      omega (arith, l);
}
