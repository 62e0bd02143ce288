-- The names in order, from the highest rank to the lowest.
use Rattle.std.proofs.Common.{◌≡◌, ◌≢◌, ℕ, ◌<◌, ◌≤◌, ◌+◌, List, [], ◌∷◌, ◌++◌, Some, arith, subst, sym, ap, ◌∙◌, ◌⊎◌, inl, inr, length}
use Rattle.std.specs.Prelude.{slice_get, slice_index}
use Rattle.std.proofs.lemmas.Option.{slice_get_within}
use Rattle.model_rosters.specs.declared.grammar.Grammar.{Grammar}
use Rattle.model_rosters.specs.UnitRules.{IsRanked}
use Rattle.tree_pool.specs.grammar_core.Items.{IsOrder}
use Rattle.tree_pool.specs.grammar_core.Adding.{AreOrdered}
use Rattle.model_rosters.proofs.tree_laws.ListPushes.{push-kept, push-here, push-cases}
use Rattle.model_rosters.specs.tree_laws.RankOrder.{IsPlaced, IsDone}

-- no name yet
pub order-init : (ranks : List ℕ) (names : ℕ) (done : ℕ → Type 0) → ((x : ℕ) → x < names → done x → ⊥) → AreOrdered ranks names done []
order-init ranks names done none = record {
  each = λ p x e. cc;
  all = λ x lt d. absurd (none x lt d);
  once = λ p q x e f. cc;
  rising = λ p q x y e f less. cc;
}

-- the same names, said in another way
pub order-same : (ranks : List ℕ) (names : ℕ) (order : List ℕ) (done more : ℕ → Type 0)
    → ((x : ℕ) → x < names → done x → more x) → ((x : ℕ) → x < names → more x → done x)
    → AreOrdered ranks names done order → AreOrdered ranks names more order
order-same ranks names order done more to from h = record {
  each = λ p x e. let k = h.each p x e in (k.0, to x k.0 k.1);
  all = λ x lt d. h.all x lt (from x lt d);
  once = h.once;
  rising = h.rising;
}

-- one name more, of no higher rank than those that are done
module _ (ranks : List ℕ) (names : ℕ) (order : List ℕ) (done more : ℕ → Type 0) (x : ℕ) (lt : x < names)
    (h : AreOrdered ranks names done order) (fresh : done x → ⊥)
    (above : (y : ℕ) → y < names → done y → slice_index ranks x ≤ slice_index ranks y)
    (here : more x) (grows : (y : ℕ) → done y → more y) (split : (y : ℕ) → more y → done y ⊎ (y ≡ x)) where
  each : (p y : ℕ) → (slice_get order p ≡ Some y) ⊎ ((p ≡ length order) × (y ≡ x)) → (y < names) × more y
  each p y (inl e) = let k = h.each p y e in (k.0, grows y k.1)
  each p y (inr e) = (omega (arith, e.1, lt), subst more (sym e.1) here)

  all : (y : ℕ) → y < names → done y ⊎ (y ≡ x) → (p : ℕ) × (slice_get (order ++ x ∷ []) p ≡ Some y)
  all y k (inl d) = let a = h.all y k d in (a.0, push-kept order x y a.0 a.1)
  all y k (inr e) = (length order, rw e (push-here order x))

  once : (p q y : ℕ) → (slice_get order p ≡ Some y) ⊎ ((p ≡ length order) × (y ≡ x)) → (slice_get order q ≡ Some y) ⊎ ((q ≡ length order) × (y ≡ x)) → p ≡ q
  once p q y (inl e) (inl f) = h.once p q y e f
  once p q y (inl e) (inr f) = absurd (fresh (subst done f.1 (h.each p y e).1))
  once p q y (inr e) (inl f) = absurd (fresh (subst done e.1 (h.each q y f).1))
  once p q y (inr e) (inr f) = e.0 ∙ sym f.0

  rising : (p q y z : ℕ) → (slice_get order p ≡ Some y) ⊎ ((p ≡ length order) × (y ≡ x)) → (slice_get order q ≡ Some z) ⊎ ((q ≡ length order) × (z ≡ x))
      → slice_index ranks z < slice_index ranks y → p < q
  rising p q y z (inl e) (inl f) less = h.rising p q y z e f less
  rising p q y z (inl e) (inr f) less = omega (arith, slice_get_within order p y e, f.0)
  rising p q y z (inr e) (inl f) less =
      let k = h.each q z f in
      let s : slice_index ranks y ≡ slice_index ranks x = ap (slice_index ranks) e.1 in
      absurd (omega (arith, above z k.0 k.1, s, less))
  rising p q y z (inr e) (inr f) less =
      let s : slice_index ranks y ≡ slice_index ranks z = ap (slice_index ranks) (e.1 ∙ sym f.1) in
      absurd (omega (arith, s, less))

  -- after it one name more is done
  pub order-next : AreOrdered ranks names more (order ++ x ∷ [])
  order-next = record {
    each = λ p y e. each p y (push-cases order x y p e);
    all = λ y k d. all y k (split y d);
    once = λ p q y e f. once p q y (push-cases order x y p e) (push-cases order x y q f);
    rising = λ p q y z e f less. rising p q y z (push-cases order x y p e) (push-cases order x z q f) less;
  }

-- the next name in the row of a rank
module _ (ranks : List ℕ) (names rank x : ℕ) where
  up_to : (y : ℕ) → y < x + 1 → (y < x) ⊎ (y ≡ x)
  up_to y h = grind arith

  grown : (y : ℕ) → IsPlaced ranks rank x y → IsPlaced ranks rank (x + 1) y
  grown y (inl h) = inl h
  grown y (inr h) = inr (h.0, omega (arith, h.1))

  split : (y : ℕ) → IsPlaced ranks rank (x + 1) y → IsPlaced ranks rank x y ⊎ (y ≡ x)
  split y (inl h) = inl (inl h)
  split y (inr h) = one (up_to y h.1)
    where
      one : (y < x) ⊎ (y ≡ x) → IsPlaced ranks rank x y ⊎ (y ≡ x)
      one (inl k) = inl (inr (h.0, k))
      one (inr k) = inr k

  -- a name of this rank comes next
  pub rank-taken : (order : List ℕ) → x < names → slice_index ranks x ≡ rank → AreOrdered ranks names (IsPlaced ranks rank x) order
      → AreOrdered ranks names (IsPlaced ranks rank (x + 1)) (order ++ x ∷ [])
  rank-taken order lt is h =
      order-next ranks names order (IsPlaced ranks rank x) (IsPlaced ranks rank (x + 1)) x lt h fresh above (inr (is, omega arith)) grown split
    where
      fresh : IsPlaced ranks rank x x → ⊥
      fresh (inl k) = omega (arith, k, is)
      fresh (inr k) = omega (arith, k.1)

      above : (y : ℕ) → y < names → IsPlaced ranks rank x y → slice_index ranks x ≤ slice_index ranks y
      above y ly (inl k) = omega (arith, k, is)
      above y ly (inr k) = omega (arith, k.0, is)

  -- a name of another rank does not
  pub rank-passed : (order : List ℕ) → slice_index ranks x ≢ rank → AreOrdered ranks names (IsPlaced ranks rank x) order
      → AreOrdered ranks names (IsPlaced ranks rank (x + 1)) order
  rank-passed order other h = order-same ranks names order (IsPlaced ranks rank x) (IsPlaced ranks rank (x + 1)) (λ y lt d. grown y d) (λ y lt d. back y d) h
    where
      before : (y : ℕ) → slice_index ranks y ≡ rank → (y < x) ⊎ (y ≡ x) → y < x
      before y is (inl k) = k
      before y is (inr k) = absurd (other (ap (slice_index ranks) (sym k) ∙ is))

      back : (y : ℕ) → IsPlaced ranks rank (x + 1) y → IsPlaced ranks rank x y
      back y (inl k) = inl k
      back y (inr k) = inr (k.0, before y k.0 (up_to y k.1))

-- a turn of the loop over the ranks
module _ (ranks : List ℕ) (names : ℕ) (order : List ℕ) (turn rank : ℕ) (is : rank + turn + 1 ≡ names) where
  -- as the turn begins, the higher ranks are done
  pub turn-begins : AreOrdered ranks names (IsDone ranks names turn) order → AreOrdered ranks names (IsPlaced ranks rank 0) order
  turn-begins h = order-same ranks names order (IsDone ranks names turn) (IsPlaced ranks rank 0) (λ y lt d. inl (omega (arith, d))) (λ y lt d. back y d) h
    where
      back : (y : ℕ) → IsPlaced ranks rank 0 y → IsDone ranks names turn y
      back y (inl k) = omega (arith, k)
      back y (inr k) = absurd (omega (arith, k.1))

  higher_or_same : (y : ℕ) → y < names → names ≤ slice_index ranks y + (turn + 1) → (rank < slice_index ranks y) ⊎ ((slice_index ranks y ≡ rank) × (y < names))
  higher_or_same y lt d = by (more (slice_index ranks y) (omega (arith, d)))
    where
      more : (r : ℕ) → rank ≤ r → (rank < r) ⊎ (r ≡ rank)
      more r k = grind arith

      by : (rank < slice_index ranks y) ⊎ (slice_index ranks y ≡ rank) → (rank < slice_index ranks y) ⊎ ((slice_index ranks y ≡ rank) × (y < names))
      by (inl k) = inl k
      by (inr k) = inr (k, lt)

  -- as it ends, its rank is done too
  pub turn-ends : AreOrdered ranks names (IsPlaced ranks rank names) order → AreOrdered ranks names (IsDone ranks names (turn + 1)) order
  turn-ends h = order-same ranks names order (IsPlaced ranks rank names) (IsDone ranks names (turn + 1)) (λ y lt d. to y d) (λ y lt d. higher_or_same y lt d) h
    where
      to : (y : ℕ) → IsPlaced ranks rank names y → IsDone ranks names (turn + 1) y
      to y (inl k) = omega (arith, k)
      to y (inr k) = omega (arith, k.0)

-- after the last turn all names stand in order
pub all-names : (g : Grammar) (ranks order : List ℕ) → IsRanked g (slice_index ranks) (length g.names)
    → AreOrdered ranks (length g.names) (IsDone ranks (length g.names) (length g.names)) order → IsOrder g order
all-names g ranks order ranked h = record {
  each = λ p x e. (h.each p x e).0;
  all = λ x lt. h.all x lt (omega arith);
  once = h.once;
  rising = λ r y p q rule at one e f. h.rising p q y rule.left e f (ranked.rises r rule y at one);
}
