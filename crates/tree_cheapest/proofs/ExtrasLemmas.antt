-- What the arcs of a graph cost, by their places.
use Rattle.std.proofs.Common.{◌≡◌, ◌≢◌, ℕ, ℤ, pos, ◌<◌, ◌≤◌, ◌+◌, ◌+ℤ◌, Bool, true, false, cond, List, Some, arith, refl, subst, sym, ap, ◌∙◌, ◌⊎◌, inl, inr, length, get_or, set, drop}
use Rattle.std.specs.Prelude.{slice_get, IsTrue, IsFalse}
use Rattle.std.proofs.lemmas.Int.{ints}
use Rattle.std.proofs.lemmas.Option.{same_Some, slice_get_within, slice_get-get_or}
use Rattle.std.proofs.lemmas.List.{get_or-set_same, get_or-set_other, get_or_past, at_drop_more, at_drop_all, length-set}
use Rattle.std.proofs.lemmas.Bool.{cases_eq}
use Rattle.model_rosters.specs.declared.arc_prices.ArcPrice.{ArcPrice}
use Rattle.model_rosters.specs.declared.grammar.ArcKey.{ArcKey}
use Rattle.model_rosters.specs.Arcs.{same_arc}
use Rattle.model_rosters.specs.Folds.{In}
use Rattle.model_rosters.specs.RoomPrices.{entry_price, listed_price}
use Rattle.model_rosters.specs.Sums.{Within}
use Rattle.model_rosters.proofs.EachLemmas.{get-in}
use Rattle.model_rosters.proofs.arc_laws.SameArc.{Told, arc_tells, same_arc-refl}
use Rattle.tree_cheapest.specs.Extras.{number_at, AreWithin, AreFreeBut, IsAdded}

before_or_last : (i n : ℕ) → n ≤ i → (n + 1 ≤ i) ⊎ (i ≡ n)
before_or_last i n h = grind (arith, h)

-- an entry says nothing of another arc
other_price : (a : ArcKey) (x : ArcPrice) → (x.arc ≡ a → ⊥) → entry_price a x ≡ pos 0
other_price a x other = by (arc_tells x.arc a)
  where
    by : Told x.arc a → entry_price a x ≡ pos 0
    by (inl h) = absurd (other h.2)
    by (inr h) = ap (λ (b : Bool). cond b x.price (pos 0)) h.0

own_price : (a : ArcKey) (x : ArcPrice) → x.arc ≡ a → entry_price a x ≡ x.price
own_price a x same =
    let told : same_arc x.arc a ≡ true = subst (λ (b : ArcKey). same_arc x.arc b ≡ true) same (same_arc-refl x.arc) in
    ap (λ (b : Bool). cond b x.price (pos 0)) told

module _ (arcs : List ArcKey) (x : ArcPrice) (old : List ℤ) where
  -- the price of an entry is added where its arc stands
  pub added-at : (p : ℕ) → ((p q : ℕ) (a : ArcKey) → slice_get arcs p ≡ Some a → slice_get arcs q ≡ Some a → p ≡ q)
      → slice_get arcs p ≡ Some x.arc → p < length old → IsAdded arcs x old (set old p (number_at old p +ℤ x.price))
  added-at p once at inside k a here = by (cases_eq k p)
    where
      by : (k ≡ p) ⊎ (k ≢ p) → number_at (set old p (number_at old p +ℤ x.price)) k ≡ number_at old k +ℤ entry_price a x
      by (inl e) =
          let same : x.arc ≡ a = same_Some x.arc a (sym at ∙ ap (λ (n : ℕ). slice_get arcs n) (sym e) ∙ here) in
          let price = own_price a x same in
          let now : number_at (set old p (number_at old p +ℤ x.price)) k ≡ number_at old p +ℤ x.price =
          ap (λ (n : ℕ). number_at (set old p (number_at old p +ℤ x.price)) n) e ∙ get_or-set_same old p (number_at old p +ℤ x.price) (pos 0) inside in
          let was : number_at old k ≡ number_at old p = ap (λ (n : ℕ). number_at old n) e in
          omega (arith, ints, now, was, price)
      by (inr ne) =
          let price = other_price a x (λ (same : x.arc ≡ a). ne (once k p a here (at ∙ ap Some same))) in
          let now : number_at (set old p (number_at old p +ℤ x.price)) k ≡ number_at old k = get_or-set_other old p k (number_at old p +ℤ x.price) (pos 0) ne in
          omega (arith, ints, now, price)

  -- and nowhere where the graph lacks the arc
  pub added-none : (In x.arc arcs → ⊥) → IsAdded arcs x old old
  added-none lacks k a here =
      let price = other_price a x (λ (same : x.arc ≡ a). lacks (get-in arcs k x.arc (here ∙ ap Some (sym same)))) in
      omega (arith, ints, price)

-- what is left of the entries adds up with what was added
abbrev pub AreAddedTo : List ArcKey → List ArcPrice → ℕ → List ℤ → Type 0
AreAddedTo arcs entries n numbers = (k : ℕ) (a : ArcKey) → slice_get arcs k ≡ Some a
    → listed_price entries a ≡ number_at numbers k +ℤ listed_price (drop n entries) a

module _ (arcs : List ArcKey) (entries : List ArcPrice) where
  pub added-more : (old new : List ℤ) (n : ℕ) (d : ArcPrice) → n < length entries → AreAddedTo arcs entries n old → IsAdded arcs (get_or entries n d) old new → AreAddedTo arcs entries (n + 1) new
  added-more old new n d lt so_far added k a here =
      let x = get_or entries n d in
      let share : listed_price (drop n entries) a ≡ entry_price a x +ℤ listed_price (drop (n + 1) entries) a = at_drop_more (λ (es : List ArcPrice). listed_price es a) entries n d lt in
      omega (arith, ints, so_far k a here, share, added k a here)

  pub added-all : (numbers : List ℤ) (n : ℕ) → length entries ≤ n → AreAddedTo arcs entries n numbers → (k : ℕ) (a : ArcKey) → slice_get arcs k ≡ Some a → number_at numbers k ≡ listed_price entries a
  added-all numbers n all so_far k a here =
      let rest : listed_price (drop n entries) a ≡ pos 0 = at_drop_all (λ (es : List ArcPrice). listed_price es a) entries n all in
      omega (arith, ints, so_far k a here, rest)

-- a small number in the place of another
pub within-set : (most : ℕ) (old : List ℤ) (p : ℕ) (z : ℤ) → p < length old → AreWithin most old → Within most z → AreWithin most (set old p z)
within-set most old p z inside small within k = by (cases_eq k p)
  where
    by : (k ≡ p) ⊎ (k ≢ p) → Within most (number_at (set old p z) k)
    by (inl e) = subst (Within most) (sym (ap (λ (n : ℕ). number_at (set old p z) n) e ∙ get_or-set_same old p z (pos 0) inside)) within
    by (inr ne) = subst (Within most) (sym (get_or-set_other old p k z (pos 0) ne)) (small k)

before_or_here : (k n : ℕ) → k < n + 1 → (k < n) ⊎ (k ≡ n)
before_or_here k n h = grind (arith, h)

-- one more arc was asked for, and its number is what it costs
pub asked-each : (cost : ArcKey → ℤ) (arcs : List ArcKey) (old : List ℤ) (n : ℕ) (one : ArcKey) (z : ℤ) → n < length old → slice_get arcs n ≡ Some one → z ≡ cost one
    → ((k : ℕ) (a : ArcKey) → k < n → slice_get arcs k ≡ Some a → number_at old k ≡ cost a)
    → (k : ℕ) (a : ArcKey) → k < n + 1 → slice_get arcs k ≡ Some a → number_at (set old n z) k ≡ cost a
asked-each cost arcs old n one z inside at costs before k a lt here = by (before_or_here k n lt)
  where
    by : (k < n) ⊎ (k ≡ n) → number_at (set old n z) k ≡ cost a
    by (inl less) = get_or-set_other old n k z (pos 0) (λ (same : k ≡ n). absurd (omega (arith, less, same))) ∙ before k a less here
    by (inr e) =
        ap (λ (q : ℕ). number_at (set old n z) q) e ∙ get_or-set_same old n z (pos 0) inside ∙ costs ∙ ap cost (same_Some one a (sym at ∙ ap (λ (q : ℕ). slice_get arcs q) (sym e) ∙ here))

-- and it is small
pub asked-small : (most : ℕ) (old : List ℤ) (n : ℕ) (z : ℤ) → n < length old → Within most z → ((k : ℕ) → k < n → Within most (number_at old k)) → (k : ℕ) → k < n + 1 → Within most (number_at (set old n z) k)
asked-small most old n z inside small before k lt = by (before_or_here k n lt)
  where
    by : (k < n) ⊎ (k ≡ n) → Within most (number_at (set old n z) k)
    by (inl less) = subst (Within most) (sym (get_or-set_other old n k z (pos 0) (λ (same : k ≡ n). absurd (omega (arith, less, same))))) (before k less)
    by (inr e) = subst (Within most) (sym (ap (λ (q : ℕ). number_at (set old n z) q) e ∙ get_or-set_same old n z (pos 0) inside)) small

-- one more place is listed, and its number may be any
pub free-added : (places : List ℕ) (n p : ℕ) (old : List ℤ) (z : ℤ) → n < length places → AreFreeBut places 0 n old → AreFreeBut (set places n p) 0 (n + 1) (set old p z)
free-added places n p old z inside free k = by (cases_eq k p) (free k)
  where
    here : slice_get (set places n p) n ≡ Some p
    here = slice_get-get_or (set places n p) n 0 (omega (arith, inside, length-set places n p)) ∙ ap Some (get_or-set_same places n p 0 inside)

    kept : (i : ℕ) → i < n → slice_get places i ≡ Some k → slice_get (set places n p) i ≡ Some k
    kept i lt e =
        let other : i ≢ n = λ (same : i ≡ n). absurd (omega (arith, lt, same)) in
        let l : i < length (set places n p) = omega (arith, lt, inside, length-set places n p) in
        let m : i < length places = omega (arith, lt, inside) in
        slice_get-get_or (set places n p) i 0 l ∙ ap Some (get_or-set_other places n i p 0 other) ∙ sym (slice_get-get_or places i 0 m) ∙ e

    by : (k ≡ p) ⊎ (k ≢ p) → (number_at old k ≡ pos 0) ⊎ ((i : ℕ) × (0 ≤ i) × (i < n) × (slice_get places i ≡ Some k))
        → (number_at (set old p z) k ≡ pos 0) ⊎ ((i : ℕ) × (0 ≤ i) × (i < n + 1) × (slice_get (set places n p) i ≡ Some k))
    by (inl e) h = inr (n, omega arith, omega arith, here ∙ ap Some (sym e))
    by (inr ne) (inl h) = inl (get_or-set_other old p k z (pos 0) ne ∙ h)
    by (inr ne) (inr h) = inr (h.0, h.1, omega (arith, h.2), kept h.0 h.2 h.3)

-- and none is needed where no number changed
pub free-kept : (places : List ℕ) (n p : ℕ) (old : List ℤ) → n < length places → AreFreeBut places 0 n old → AreFreeBut (set places n p) 0 (n + 1) old
free-kept places n p old inside free k = by (free k)
  where
    by : (number_at old k ≡ pos 0) ⊎ ((i : ℕ) × (0 ≤ i) × (i < n) × (slice_get places i ≡ Some k)) → (number_at old k ≡ pos 0) ⊎ ((i : ℕ) × (0 ≤ i) × (i < n + 1) × (slice_get (set places n p) i ≡ Some k))
    by (inl h) = inl h
    by (inr h) =
        let lt = h.2 in
        let other : h.0 ≢ n = λ (same : h.0 ≡ n). absurd (omega (arith, lt, same)) in
        let l : h.0 < length (set places n p) = omega (arith, lt, inside, length-set places n p) in
        let m : h.0 < length places = omega (arith, lt, inside) in
        inr (h.0, h.1, omega (arith, lt), slice_get-get_or (set places n p) h.0 0 l ∙ ap Some (get_or-set_other places n h.0 p 0 other) ∙ sym (slice_get-get_or places h.0 0 m) ∙ h.3)

pub free-wider : (places : List ℕ) (n m : ℕ) (old : List ℤ) → n ≤ m → AreFreeBut places 0 n old → AreFreeBut places 0 m old
free-wider places n m old le free k = by (free k)
  where
    by : (number_at old k ≡ pos 0) ⊎ ((i : ℕ) × (0 ≤ i) × (i < n) × (slice_get places i ≡ Some k)) → (number_at old k ≡ pos 0) ⊎ ((i : ℕ) × (0 ≤ i) × (i < m) × (slice_get places i ≡ Some k))
    by (inl h) = inl h
    by (inr h) = inr (h.0, h.1, omega (arith, h.2, le), h.3)

-- the number of the first place that is listed is taken back
module _ (places : List ℕ) (n m p : ℕ) (old : List ℤ) (at : slice_get places n ≡ Some p) (free : AreFreeBut places n m old) where
  left : (new : List ℤ) (k : ℕ) → (k ≡ p → number_at new k ≡ pos 0) → (k ≢ p → number_at new k ≡ number_at old k)
      → (number_at new k ≡ pos 0) ⊎ ((i : ℕ) × (n + 1 ≤ i) × (i < m) × (slice_get places i ≡ Some k))
  left new k here other = by (cases_eq k p) (free k)
    where
      by : (k ≡ p) ⊎ (k ≢ p) → (number_at old k ≡ pos 0) ⊎ ((i : ℕ) × (n ≤ i) × (i < m) × (slice_get places i ≡ Some k)) → (number_at new k ≡ pos 0) ⊎ ((i : ℕ) × (n + 1 ≤ i) × (i < m) × (slice_get places i ≡ Some k))
      by (inl e) h = inl (here e)
      by (inr ne) (inl h) = inl (other ne ∙ h)
      by (inr ne) (inr h) = elim (before_or_last h.0 n h.1) [
        | inl lt ↦ inr (h.0, lt, h.2, h.3)
        | inr e ↦ absurd (ne (same_Some k p (sym h.3 ∙ ap (λ (i : ℕ). slice_get places i) e ∙ at)))
      ]

  pub free-taken : p < length old → AreFreeBut places (n + 1) m (set old p (pos 0))
  free-taken inside k = left (set old p (pos 0)) k (λ e. ap (λ (q : ℕ). number_at (set old p (pos 0)) q) e ∙ get_or-set_same old p (pos 0) (pos 0) inside) (λ ne. get_or-set_other old p k (pos 0) (pos 0) ne)

  pub free-past : length old ≤ p → AreFreeBut places (n + 1) m old
  free-past past k = left old k (λ e. ap (λ (q : ℕ). number_at old q) e ∙ get_or_past old p (pos 0) past) (λ ne. refl)

-- in the end all are 0
pub free-all : (places : List ℕ) (n m : ℕ) (old : List ℤ) → (m ≤ n) ⊎ (length places ≤ n) → AreFreeBut places n m old → (k : ℕ) → number_at old k ≡ pos 0
free-all places n m old all free k = by all (free k)
  where
    by : (m ≤ n) ⊎ (length places ≤ n) → (number_at old k ≡ pos 0) ⊎ ((i : ℕ) × (n ≤ i) × (i < m) × (slice_get places i ≡ Some k)) → number_at old k ≡ pos 0
    by a (inl h) = h
    by (inl a) (inr h) = absurd (omega (arith, a, h.1, h.2))
    by (inr a) (inr h) = let lt = slice_get_within places h.0 k h.3 in absurd (omega (arith, a, h.1, lt))

-- a number that was read
pub number-read : (xs : List ℤ) (k : ℕ) (d r : ℤ) → k < length xs → r ≡ get_or xs k d → r ≡ number_at xs k
number-read xs k d r lt e = e ∙ same_Some (get_or xs k d) (get_or xs k (pos 0)) (sym (slice_get-get_or xs k d lt) ∙ slice_get-get_or xs k (pos 0) lt)

-- all are small where those that are there are
pub within-all : (most : ℕ) (xs : List ℤ) → ((k : ℕ) → k < length xs → Within most (number_at xs k)) → AreWithin most xs
within-all most xs each k = by (inside_or_past k (length xs))
  where
    inside_or_past : (k n : ℕ) → (k < n) ⊎ (n ≤ k)
    inside_or_past k n = grind arith

    by : (k < length xs) ⊎ (length xs ≤ k) → Within most (number_at xs k)
    by (inl lt) = each k lt
    by (inr past) = subst (Within most) (sym (get_or_past xs k (pos 0) past)) (record { low = omega (arith, ints); high = omega (arith, ints) })

-- a place is listed whether or not a price was added
pub free-raised : (places : List ℕ) (n p : ℕ) (old new : List ℤ) (z : ℤ) (done : Bool) → n < length places → AreFreeBut places 0 n old → (IsTrue done → new ≡ set old p z) → (IsFalse done → new ≡ old)
    → AreFreeBut (set places n p) 0 (n + 1) new
free-raised places n p old new z true inside free raised kept = subst (AreFreeBut (set places n p) 0 (n + 1)) (sym (raised refl)) (free-added places n p old z inside free)
free-raised places n p old new z false inside free raised kept = subst (AreFreeBut (set places n p) 0 (n + 1)) (sym (kept refl)) (free-kept places n p old inside free)

pub either-past : (a b c m n : ℕ) → (a ≤ m) ⊎ (b ≤ m) → c ≡ b → m ≤ n → (a ≤ n) ⊎ (c ≤ n)
either-past a b c m n all same le = by all
  where
    by : (a ≤ m) ⊎ (b ≤ m) → (a ≤ n) ⊎ (c ≤ n)
    by (inl h) = inl (omega (arith, h, le))
    by (inr h) = inr (omega (arith, h, le, same))
