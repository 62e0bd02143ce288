-- The slots of names, from the highest rank to the lowest.
use Rattle.std.proofs.Common.{◌≡◌, ◌≢◌, ℕ, ◌<◌, ◌≤◌, ◌+◌, ◌*◌, List, [], ◌∷◌, ◌++◌, Some, arith, subst, sym, ap, ◌∙◌, ◌⊎◌, inl, inr, length, get_or, set, get_or-set_same, get_or-set_other, length-append, length-set}
use Rattle.std.specs.Prelude.{slice_get, slice_index}
use Rattle.std.proofs.lemmas.Option.{slice_get_within}
use Rattle.tree_span_cells.specs.declared.slot.Slot.{Slot}
use Rattle.tree_span_cells.specs.declared.slot.Slot.TheVariants.{OfName, OfSuffix}
use Rattle.tree_span_cells.specs.declared.slot.Suffix.{Suffix}
use Rattle.tree_span_cells.specs.Building.{NameSlots, AreNamed}
use Rattle.model_rosters.specs.declared.grammar.Grammar.{Grammar}
use Rattle.model_rosters.specs.UnitRules.{IsRanked}
use Rattle.model_rosters.proofs.tree_laws.ListPushes.{push-kept, push-here, push-cases}
use Rattle.model_rosters.specs.tree_laws.RankOrder.{IsPlaced, IsDone}

-- no name yet
pub names-init : (ranks : List ℕ) (base : List Slot) (names : List ℕ) (done : ℕ → Type 0)
    → ((s x : ℕ) → slice_get base s ≡ Some (OfName x) → ⊥) → ((x : ℕ) → x < length names → done x → ⊥) → NameSlots ranks base base names done 0
names-init ranks base names done none empty = record {
  kept = λ s w e. e;
  suffixes = λ s x e. e;
  few = omega arith;
  there = λ x lt d. absurd (empty x lt d);
  only = λ s x e. absurd (none s x e);
  order = λ x y a b d e f. absurd (empty x a d);
}

-- the same names, said in another way
pub names-same : (ranks : List ℕ) (base slots : List Slot) (names : List ℕ) (done more : ℕ → Type 0) (m n : ℕ)
    → ((x : ℕ) → x < length names → done x → more x) → ((x : ℕ) → x < length names → more x → done x) → m ≤ n
    → NameSlots ranks base slots names done m → NameSlots ranks base slots names more n
names-same ranks base slots names done more m n to from le h = record {
  kept = h.kept;
  suffixes = h.suffixes;
  few = omega (arith, h.few);
  there = λ x lt d. h.there x lt (from x lt d);
  only = λ s x e. let k = h.only s x e in (k.0, to x k.0 k.1, k.2);
  order = λ x y a b d e f. h.order x y a b (from x a d) (from y b e) f;
}

same_or_other : (x y : ℕ) → (y ≡ x) ⊎ (y ≢ x)
same_or_other x y = grind arith

-- one name more, of no higher rank than those that are done
module _ (ranks : List ℕ) (base slots : List Slot) (names : List ℕ) (done more : ℕ → Type 0) (m x : ℕ) (lt : x < length names)
    (h : NameSlots ranks base slots names done m) (fresh : done x → ⊥)
    (above : (y : ℕ) → y < length names → done y → slice_index ranks x ≤ slice_index ranks y)
    (here : more x) (grows : (y : ℕ) → done y → more y) (split : (y : ℕ) → more y → done y ⊎ (y ≡ x)) where
  other : (y : ℕ) → done y → get_or (set names x (length slots)) y 0 ≡ get_or names y 0
  other y d = let ne : y ≢ x = λ e. fresh (subst done e d) in rw get_or-set_other

  own : (y : ℕ) → y ≡ x → get_or (set names x (length slots)) y 0 ≡ length slots
  own y e = rw (e, get_or-set_same)

  inside : (y : ℕ) → y < length (set names x (length slots)) → y < length names
  inside y k = omega (arith, k, length-set names x (length slots))

  there : (y : ℕ) → y < length names → done y ⊎ (y ≡ x) → slice_get (slots ++ OfName x ∷ []) (get_or (set names x (length slots)) y 0) ≡ Some (OfName y)
  there y k (inl d) = rw (other y d) (push-kept slots (OfName x) (OfName y) (get_or names y 0) (h.there y k d))
  there y k (inr e) = rw (own y e, e) (push-here slots (OfName x))

  only : (s y : ℕ) → (slice_get slots s ≡ Some (OfName y)) ⊎ ((s ≡ length slots) × (OfName y ≡ OfName x))
      → (y < length (set names x (length slots))) × more y × (s ≡ get_or (set names x (length slots)) y 0)
  only s y (inl e) = let k = h.only s y e in (omega (arith, k.0, length-set names x (length slots)), grows y k.1, k.2 ∙ sym (other y k.1))
  only s y (inr e) = let same : y ≡ x = cc in (omega (arith, same, lt, length-set names x (length slots)), subst more (sym same) here, e.0 ∙ sym (own y same))

  order : (y z : ℕ) → y < length names → z < length names → done y ⊎ (y ≡ x) → done z ⊎ (z ≡ x) → slice_index ranks y < slice_index ranks z
      → get_or (set names x (length slots)) z 0 < get_or (set names x (length slots)) y 0
  order y z ly lz (inl d) (inl e) less = rw (other y d, other z e) (h.order y z ly lz d e less)
  order y z ly lz (inl d) (inr e) less =
      let k : slice_index ranks z ≡ slice_index ranks x = ap (slice_index ranks) e in
      absurd (omega (arith, above y ly d, k, less))
  order y z ly lz (inr d) (inl e) less =
      rw (own y d, other z e) (slice_get_within slots (get_or names z 0) (OfName z) (h.there z lz e))
  order y z ly lz (inr d) (inr e) less =
      let k : slice_index ranks z ≡ slice_index ranks y = ap (slice_index ranks) (e ∙ sym d) in
      absurd (omega (arith, k, less))

  suffixes : (s : ℕ) (w : Suffix) → (slice_get slots s ≡ Some (OfSuffix w)) ⊎ ((s ≡ length slots) × (OfSuffix w ≡ OfName x)) → slice_get base s ≡ Some (OfSuffix w)
  suffixes s w (inl e) = h.suffixes s w e
  suffixes s w (inr e) = cc

  -- after it one name more is done
  pub names-next : NameSlots ranks base (slots ++ OfName x ∷ []) (set names x (length slots)) more (m + 1)
  names-next = record {
    kept = λ s w e. push-kept slots (OfName x) w s (h.kept s w e);
    suffixes = λ s w e. suffixes s w (push-cases slots (OfName x) (OfSuffix w) s e);
    few = omega (arith, length-append slots (OfName x ∷ []), h.few);
    there = λ y k d. there y (inside y k) (split y d);
    only = λ s y e. only s y (push-cases slots (OfName x) (OfName y) s e);
    order = λ y z ly lz d e less. order y z (inside y ly) (inside z lz) (split y d) (split z e) less;
  }

-- the next name in the row of a rank
module _ (ranks : List ℕ) (rank x : ℕ) where
  up_to : (y : ℕ) → y < x + 1 → (y < x) ⊎ (y ≡ x)
  up_to y h = grind arith

  grown : (y : ℕ) → IsPlaced ranks rank x y → IsPlaced ranks rank (x + 1) y
  grown y (inl h) = inl h
  grown y (inr h) = inr (h.0, omega (arith, h.1))

  split : (y : ℕ) → IsPlaced ranks rank (x + 1) y → IsPlaced ranks rank x y ⊎ (y ≡ x)
  split y (inl h) = inl (inl h)
  split y (inr h) = one (up_to y h.1)
    where
      one : (y < x) ⊎ (y ≡ x) → IsPlaced ranks rank x y ⊎ (y ≡ x)
      one (inl k) = inl (inr (h.0, k))
      one (inr k) = inr k

  -- a name of this rank gets the next slot
  pub rank-taken : (base slots : List Slot) (names : List ℕ) (m : ℕ) → x < length names → slice_index ranks x ≡ rank → NameSlots ranks base slots names (IsPlaced ranks rank x) m
      → NameSlots ranks base (slots ++ OfName x ∷ []) (set names x (length slots)) (IsPlaced ranks rank (x + 1)) (m + 1)
  rank-taken base slots names m lt is h =
      names-next ranks base slots names (IsPlaced ranks rank x) (IsPlaced ranks rank (x + 1)) m x lt h fresh above (inr (is, omega arith)) grown split
    where
      fresh : IsPlaced ranks rank x x → ⊥
      fresh (inl k) = omega (arith, k, is)
      fresh (inr k) = omega (arith, k.1)

      above : (y : ℕ) → y < length names → IsPlaced ranks rank x y → slice_index ranks x ≤ slice_index ranks y
      above y ly (inl k) = omega (arith, k, is)
      above y ly (inr k) = omega (arith, k.0, is)

  -- a name of another rank gets none
  pub rank-passed : (base slots : List Slot) (names : List ℕ) (m : ℕ) → slice_index ranks x ≢ rank → NameSlots ranks base slots names (IsPlaced ranks rank x) m
      → NameSlots ranks base slots names (IsPlaced ranks rank (x + 1)) (m + 1)
  rank-passed base slots names m other h =
      names-same ranks base slots names (IsPlaced ranks rank x) (IsPlaced ranks rank (x + 1)) m (m + 1) (λ y lt d. grown y d) (λ y lt d. back y d) (omega arith) h
    where
      before : (y : ℕ) → slice_index ranks y ≡ rank → (y < x) ⊎ (y ≡ x) → y < x
      before y is (inl k) = k
      before y is (inr k) = absurd (other (ap (slice_index ranks) (sym k) ∙ is))

      back : (y : ℕ) → IsPlaced ranks rank (x + 1) y → IsPlaced ranks rank x y
      back y (inl k) = inl k
      back y (inr k) = inr (k.0, before y k.0 (up_to y k.1))

-- a turn of the loop over the ranks
module _ (ranks : List ℕ) (base slots : List Slot) (names : List ℕ) (n turn rank : ℕ) (count : length names ≡ n) (is : rank + turn + 1 ≡ n) where
  -- as the turn begins, the higher ranks are done
  pub turn-begins : (m : ℕ) → NameSlots ranks base slots names (IsDone ranks n turn) m → NameSlots ranks base slots names (IsPlaced ranks rank 0) m
  turn-begins m h = names-same ranks base slots names (IsDone ranks n turn) (IsPlaced ranks rank 0) m m (λ y lt d. inl (omega (arith, d))) (λ y lt d. back y d) (omega arith) h
    where
      back : (y : ℕ) → IsPlaced ranks rank 0 y → IsDone ranks n turn y
      back y (inl k) = omega (arith, k)
      back y (inr k) = absurd (omega (arith, k.1))

  higher_or_same : (y : ℕ) → y < length names → n ≤ slice_index ranks y + (turn + 1) → (rank < slice_index ranks y) ⊎ ((slice_index ranks y ≡ rank) × (y < length names))
  higher_or_same y lt d = by (more (slice_index ranks y) (omega (arith, d)))
    where
      more : (r : ℕ) → rank ≤ r → (rank < r) ⊎ (r ≡ rank)
      more r k = grind arith

      by : (rank < slice_index ranks y) ⊎ (slice_index ranks y ≡ rank) → (rank < slice_index ranks y) ⊎ ((slice_index ranks y ≡ rank) × (y < length names))
      by (inl k) = inl k
      by (inr k) = inr (k, lt)

  -- as it ends, its rank is done too
  pub turn-ends : (m k : ℕ) → m ≤ k → NameSlots ranks base slots names (IsPlaced ranks rank (length names)) m → NameSlots ranks base slots names (IsDone ranks n (turn + 1)) k
  turn-ends m k le h = names-same ranks base slots names (IsPlaced ranks rank (length names)) (IsDone ranks n (turn + 1)) m k (λ y lt d. to y d) (λ y lt d. higher_or_same y lt d) le h
    where
      to : (y : ℕ) → IsPlaced ranks rank (length names) y → IsDone ranks n (turn + 1) y
      to y (inl k) = omega (arith, k)
      to y (inr k) = omega (arith, k.0)

-- after the last turn all names have slots
pub all-named : (g : Grammar) (ranks : List ℕ) (base slots : List Slot) (names : List ℕ) → IsRanked g (slice_index ranks) (length g.names) → length names ≡ length g.names
    → NameSlots ranks base slots names (IsDone ranks (length names) (length names)) (length names * length names) → AreNamed g base slots names
all-named g ranks base slots names ranked count h = record {
  ranks = ranks;
  ranked = ranked;
  count = count;
  placed = names-same ranks base slots names (IsDone ranks (length names) (length names)) (λ x. Unit {0}) (length names * length names) (length g.names * length g.names)
      (λ x lt d. tt) (λ x lt d. omega arith) (let e = ap (λ (n : ℕ). n * n) count in omega (arith, e)) h;
}
