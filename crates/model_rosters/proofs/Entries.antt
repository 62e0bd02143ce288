-- Entries of arcs that are searched, added to and put in their places.
use Rattle.std.proofs.Common.{◌≡◌, ℕ, zero, suc, ◌+◌, ◌-◌, ◌<◌, ◌≤◌, ◌^◌, ◌⊎◌, inl, inr, Bool, true, false, cond, List, [], ◌∷◌, ◌++◌, length, get_or, set, take, drop, refl, sym, ap, subst, ◌∙◌, arith, All, Some, true≢false, get_or-set_same, get_or-set_other}
use Rattle.std.specs.Prelude.{ℤ, pos, ◌+ℤ◌, slice_get}
use Rattle.std.specs.List.{insert}
use Rattle.std.proofs.lemmas.Int.{ints}
use Rattle.std.proofs.lemmas.List.{length-set}
use Rattle.std.proofs.lemmas.List.Edits.{length-insert, get_or-insert_below, get_or-insert_at, get_or-insert_above}
use Rattle.std.proofs.lemmas.List.Elements.{All-append, All-cons, All-drop, All-set, All-take, All-weaker}
use Rattle.std.proofs.lemmas.Option.{slice_get-get_or, get_or_from_slice_get}
use Rattle.model_rosters.specs.declared.grammar.ArcKey.{ArcKey}
use Rattle.model_rosters.specs.declared.arc_prices.ArcPrice.{ArcPrice}
use Rattle.model_rosters.specs.ArcEntries.{is_before, mark_place, AreSorted, IsMarked, AreMarked, IsEntryWithin, IsSearched, raised}
use Rattle.model_rosters.specs.Arcs.{same_arc}
use Rattle.model_rosters.specs.EntryLaws.{same-arc, before-trans, before-other, before-or, listed-none, listed-one}
use Rattle.model_rosters.specs.RoomPrices.{entry_price, listed_price}
use Rattle.model_rosters.specs.Sums.{Within}

three : (k m : ℕ) → (k < m) ⊎ ((k ≡ m) ⊎ (m < k))
three k m = grind arith

not-true : (b : Bool) → (b ≡ true → ⊥) → b ≡ false
not-true true h = absurd (h refl)
not-true false h = refl

module _ (xs : List ArcPrice) (a : ArcKey) (sorted : AreSorted xs) where
  pub searched-all : IsSearched xs a 0 (length xs)
  searched-all = record {
    order = omega arith;
    within = omega arith;
    under = λ k d l. absurd (omega (arith, l));
    above = λ k d l m. absurd (omega (arith, l, m));
  }

  module _ (low high m : ℕ) (e : ArcPrice) (h : IsSearched xs a low high) (in_low : low ≤ m) (in_high : m < high) where
    -- what comes before an arc that comes before it does so too
    pub searched-up : is_before (get_or xs m e).arc a ≡ true → IsSearched xs a (m + 1) high
    searched-up less = record {
      order = omega (arith, in_high);
      within = h.within;
      under = λ k d l. by k d (three k m) l;
      above = h.above;
    }
      where
        own : (d : ArcPrice) → get_or xs m d ≡ get_or xs m e
        own d = get_or_from_slice_get xs m (get_or xs m e) d (slice_get-get_or xs m e (omega (arith, in_high, h.within)))

        by : (k : ℕ) (d : ArcPrice) → (k < m) ⊎ ((k ≡ m) ⊎ (m < k)) → k < m + 1 → is_before (get_or xs k d).arc a ≡ true
        by k d (inl l) n =
            before-trans (get_or xs k d).arc (get_or xs m d).arc a (sorted.rising k m d l (omega (arith, in_high, h.within)))
            (ap (λ (x : ArcPrice). is_before x.arc a) (own d) ∙ less)
        by k d (inr (inl s)) n = ap (λ (j : ℕ). is_before (get_or xs j d).arc a) s ∙ ap (λ (x : ArcPrice). is_before x.arc a) (own d) ∙ less
        by k d (inr (inr l)) n = absurd (omega (arith, l, n))

    pub searched-down : is_before (get_or xs m e).arc a ≡ false → IsSearched xs a low m
    searched-down more = record {
      order = in_low;
      within = omega (arith, in_high, h.within);
      under = h.under;
      above = λ k d l n. by k d n (three k m) l;
    }
      where
        own : (d : ArcPrice) → get_or xs m d ≡ get_or xs m e
        own d = get_or_from_slice_get xs m (get_or xs m e) d (slice_get-get_or xs m e (omega (arith, in_high, h.within)))

        by : (k : ℕ) (d : ArcPrice) → k < length xs → (k < m) ⊎ ((k ≡ m) ⊎ (m < k)) → m ≤ k → is_before (get_or xs k d).arc a ≡ false
        by k d w (inl l) n = absurd (omega (arith, l, n))
        by k d w (inr (inl s)) n = ap (λ (j : ℕ). is_before (get_or xs j d).arc a) s ∙ ap (λ (x : ArcPrice). is_before x.arc a) (own d) ∙ more
        by k d w (inr (inr l)) n = not-true (is_before (get_or xs k d).arc a) (λ less.
            true≢false (sym (before-trans (get_or xs m d).arc (get_or xs k d).arc a (sorted.rising m k d l w) less)
            ∙ ap (λ (x : ArcPrice). is_before x.arc a) (own d) ∙ more))

  module _ (n : ℕ) (h : IsSearched xs a n n) where
    -- no entry before the place that was found has the arc, nor has one behind it
    other : (k : ℕ) (d : ArcPrice) → k < length xs → (k ≡ n → ⊥) → same_arc (get_or xs k d).arc a ≡ false
    other k d l o = by (three k n)
      where
        by : (k < n) ⊎ ((k ≡ n) ⊎ (n < k)) → same_arc (get_or xs k d).arc a ≡ false
        by (inl m) = before-other (get_or xs k d).arc a (h.under k d m)
        by (inr (inl s)) = absurd (o s)
        by (inr (inr m)) = not-true (same_arc (get_or xs k d).arc a) (λ s.
            let less = sorted.rising n k d m l in
            true≢false (sym (subst (λ (b : ArcKey). is_before (get_or xs n d).arc b ≡ true) (same-arc (get_or xs k d).arc a s) less) ∙ h.above n d (omega arith) (omega (arith, m, l))))

    pub found : (e : ArcPrice) → n < length xs → e ≡ get_or xs n e → listed_price xs a ≡ entry_price a e
    found e w at = listed-one xs a n e w other ∙ ap (entry_price a) (sym at)

    pub not-found : length xs ≤ n → listed_price xs a ≡ pos 0
    not-found out = listed-none xs a (λ k d l. other k d l (λ s. absurd (omega (arith, s, l, out))))

-- where there are no entries an arc costs nothing
pub no-entries : (xs : List ArcPrice) (a : ArcKey) → length xs ≡ 0 → listed_price xs a ≡ pos 0
no-entries xs a none = listed-none xs a (λ k d l. absurd (omega (arith, l, none)))

-- no entry has the arc where its mark is not set
pub unmarked : (marks : List Bool) (xs : List ArcPrice) (a : ArcKey) → AreMarked marks xs → slice_get marks (mark_place a) ≡ Some false → listed_price xs a ≡ pos 0
unmarked marks xs a all off = listed-none xs a (λ k d l. not-true (same_arc (get_or xs k d).arc a) (λ s.
    (all k d l).marked (ap (λ (b : ArcKey). slice_get marks (mark_place b)) (same-arc (get_or xs k d).arc a s) ∙ off)))

-- ---- an entry that is added to

raised-price : (b : Bool) (p z : ℤ) → cond b (p +ℤ z) (pos 0) ≡ cond b p (pos 0) +ℤ cond b z (pos 0)
raised-price true p z = refl
raised-price false p z = refl

pub listed-raised : (xs : List ArcPrice) (n : ℕ) (d : ArcPrice) (z : ℤ) (a : ArcKey) → n < length xs
    → listed_price (set xs n (raised (get_or xs n d) z)) a ≡ listed_price xs a +ℤ cond (same_arc (get_or xs n d).arc a) z (pos 0)
listed-raised [] n d z a l = absurd (omega (arith, l))
listed-raised (x ∷ xs) zero d z a l = let e = raised-price (same_arc x.arc a) x.price z in omega (arith, ints, e)
listed-raised (x ∷ xs) (suc n) d z a l = let e = listed-raised xs n d z a (omega (arith, l)) in omega (arith, ints, e)

module _ (xs : List ArcPrice) (n : ℕ) (d : ArcPrice) (z : ℤ) (l : n < length xs) where
  ys : List ArcPrice
  ys = set xs n (raised (get_or xs n d) z)

  arc-kept : (k : ℕ) (e : ArcPrice) → k < length xs → (get_or (set xs n (raised (get_or xs n d) z)) k e).arc ≡ (get_or xs k e).arc
  arc-kept k e m = by (three k n)
    where
      own : get_or xs n e ≡ get_or xs n d
      own = get_or_from_slice_get xs n (get_or xs n d) e (slice_get-get_or xs n d l)

      by : (k < n) ⊎ ((k ≡ n) ⊎ (n < k)) → (get_or (set xs n (raised (get_or xs n d) z)) k e).arc ≡ (get_or xs k e).arc
      by (inl h) = ap (λ (x : ArcPrice). x.arc) (get_or-set_other xs n k (raised (get_or xs n d) z) e (λ s. absurd (omega (arith, s, h))))
      by (inr (inl s)) =
          ap (λ (j : ℕ). (get_or (set xs n (raised (get_or xs n d) z)) j e).arc) s
          ∙ ap (λ (x : ArcPrice). x.arc) (get_or-set_same xs n (raised (get_or xs n d) z) e l) ∙ sym (ap (λ (x : ArcPrice). x.arc) own) ∙ ap (λ (j : ℕ). (get_or xs j e).arc) (sym s)
      by (inr (inr h)) = ap (λ (x : ArcPrice). x.arc) (get_or-set_other xs n k (raised (get_or xs n d) z) e (λ s. absurd (omega (arith, s, h))))

  pub sorted-raised : AreSorted xs → AreSorted (set xs n (raised (get_or xs n d) z))
  sorted-raised h = record {
    rising = λ j k e m w.
        let long = length-set xs n (raised (get_or xs n d) z) in
        rw (arc-kept j e (omega (arith, m, w, long)), arc-kept k e (omega (arith, w, long))) (h.rising j k e m (omega (arith, w, long)));
  }

-- ---- an entry that is put in its place

listed-append : (xs ys : List ArcPrice) (a : ArcKey) → listed_price (xs ++ ys) a ≡ listed_price xs a +ℤ listed_price ys a
listed-append [] ys a = omega (arith, ints)
listed-append (x ∷ xs) ys a = let e = listed-append xs ys a in omega (arith, ints, e)

take-then-drop : (n : ℕ) (xs : List ArcPrice) → take n xs ++ drop n xs ≡ xs
take-then-drop zero xs = refl
take-then-drop (suc n) [] = refl
take-then-drop (suc n) (x ∷ xs) = ap (λ (ys : List ArcPrice). x ∷ ys) (take-then-drop n xs)

pub listed-insert : (xs : List ArcPrice) (n : ℕ) (e : ArcPrice) (a : ArcKey) → listed_price (insert xs n e) a ≡ listed_price xs a +ℤ entry_price a e
listed-insert xs n e a =
    let whole = ap (λ (ys : List ArcPrice). listed_price ys a) (take-then-drop n xs) in
    let parts = listed-append (take n xs) (drop n xs) a in
    let more = listed-append (take n xs) (e ∷ drop n xs) a in
    omega (arith, ints, whole, parts, more)

pub All-insert : (P : ArcPrice → Type 0) (xs : List ArcPrice) (n : ℕ) (e : ArcPrice) → All P xs → P e → All P (insert xs n e)
All-insert P xs n e all own = All-append P (take n xs) (e ∷ drop n xs) (All-take P n xs all) (All-cons P e (drop n xs) own (All-drop P n xs all))

module _ (xs : List ArcPrice) (n : ℕ) (e : ArcPrice) (sorted : AreSorted xs) (h : IsSearched xs e.arc n n)
    (apart : (d : ArcPrice) → n < length xs → same_arc (get_or xs n d).arc e.arc ≡ false) where
  in-order : n ≤ length xs
  in-order = h.within

  -- the entries from the place on come after the new one
  after : (k : ℕ) (d : ArcPrice) → n ≤ k → k < length xs → is_before e.arc (get_or xs k d).arc ≡ true
  after k d l w = before-or (get_or xs k d).arc e.arc (h.above k d l w) (by (three k n))
    where
      by : (k < n) ⊎ ((k ≡ n) ⊎ (n < k)) → same_arc (get_or xs k d).arc e.arc ≡ false
      by (inl m) = absurd (omega (arith, m, l))
      by (inr (inl s)) = ap (λ (j : ℕ). same_arc (get_or xs j d).arc e.arc) s ∙ apart d (omega (arith, s, w))
      by (inr (inr m)) = other xs e.arc sorted n h k d w (λ s. absurd (omega (arith, s, m)))

  below : (k : ℕ) (d : ArcPrice) → k < n → get_or (insert xs n e) k d ≡ get_or xs k d
  below k d l = get_or-insert_below xs n e d k l in-order

  at : (k : ℕ) (d : ArcPrice) → k ≡ n → get_or (insert xs n e) k d ≡ e
  at k d s = ap (λ (j : ℕ). get_or (insert xs n e) j d) s ∙ get_or-insert_at xs n e d in-order

  above : (k : ℕ) (d : ArcPrice) → n < k → get_or (insert xs n e) k d ≡ get_or xs (k - 1) d
  above k d l =
      let s : k ≡ (k - 1) + 1 = omega (arith, l) in
      ap (λ (j : ℕ). get_or (insert xs n e) j d) s ∙ get_or-insert_above xs n e d (k - 1) (omega (arith, l)) in-order

  pub sorted-insert : AreSorted (insert xs n e)
  sorted-insert = record { rising = λ j k d l w. by j k d l (omega (arith, w, length-insert xs n e in-order)) (three j n) (three k n) }
    where
      both : {x y p q : ArcPrice} → x ≡ p → y ≡ q → is_before p.arc q.arc ≡ true → is_before x.arc y.arc ≡ true
      both f g less = rw (f, g) less

      by : (j k : ℕ) (d : ArcPrice) → j < k → k < length xs + 1 → (j < n) ⊎ ((j ≡ n) ⊎ (n < j)) → (k < n) ⊎ ((k ≡ n) ⊎ (n < k))
          → is_before (get_or (insert xs n e) j d).arc (get_or (insert xs n e) k d).arc ≡ true
      by j k d l w (inl a) (inl b) = both (below j d a) (below k d b) (sorted.rising j k d l (omega (arith, b, in-order)))
      by j k d l w (inl a) (inr (inl b)) = both (below j d a) (at k d b) (h.under j d a)
      by j k d l w (inl a) (inr (inr b)) = both (below j d a) (above k d b) (sorted.rising j (k - 1) d (omega (arith, a, b)) (omega (arith, b, w)))
      by j k d l w (inr (inl a)) (inl b) = absurd (omega (arith, a, b, l))
      by j k d l w (inr (inl a)) (inr (inl b)) = absurd (omega (arith, a, b, l))
      by j k d l w (inr (inl a)) (inr (inr b)) = both (at j d a) (above k d b) (after (k - 1) d (omega (arith, b)) (omega (arith, b, w)))
      by j k d l w (inr (inr a)) (inl b) = absurd (omega (arith, a, b, l))
      by j k d l w (inr (inr a)) (inr (inl b)) = absurd (omega (arith, a, b, l))
      by j k d l w (inr (inr a)) (inr (inr b)) = both (above j d a) (above k d b) (sorted.rising (j - 1) (k - 1) d (omega (arith, l, a)) (omega (arith, b, w)))

-- ---- small prices

wider : (m n : ℕ) (z : ℤ) → m ≤ n → Within m z → Within n z
wider m n z l h = record { low = omega (arith, ints, l, h.low); high = omega (arith, ints, l, h.high) }

pub entries-wider : (m n : ℕ) (xs : List ArcPrice) → m ≤ n → All (IsEntryWithin m) xs → All (IsEntryWithin n) xs
entries-wider m n xs l all = All-weaker (IsEntryWithin m) (IsEntryWithin n) (λ x h. record { price = wider m n x.price l h.price }) xs all

pub raised-within : (m n k : ℕ) (x : ArcPrice) (z : ℤ) → k ≡ m + n → Within m x.price → Within n z → IsEntryWithin k (raised x z)
raised-within m n k x z s h w = record { price = record { low = omega (arith, ints, s, h.low, w.low); high = omega (arith, ints, s, h.high, w.high) } }

-- ---- one entry more

pub still-marked : (old new : List Bool) (xs : List ArcPrice) → ((k : ℕ) → slice_get new k ≡ Some false → slice_get old k ≡ Some false) → AreMarked old xs → AreMarked new xs
still-marked old new xs kept all = All-weaker (IsMarked old) (IsMarked new) (λ x h. record { marked = λ off. h.marked (kept (mark_place x.arc) off) }) xs all

-- the entries with what one more adds
pub record IsAdded (old new : List Bool) (xs ys : List ArcPrice) (e : ArcPrice) : Type 0 where
  pub value : (a : ArcKey) → listed_price ys a ≡ listed_price xs a +ℤ entry_price a e
  pub sorted : AreSorted ys
  pub marked : AreMarked new ys
  pub small : (n k : ℕ) → All (IsEntryWithin n) xs → IsEntryWithin k e → All (IsEntryWithin (n + k)) ys
  pub long : length ys ≤ length xs + 1

module _ (old new : List Bool) (xs ys : List ArcPrice) (n : ℕ) (e d : ArcPrice) (sorted : AreSorted xs) (marks : AreMarked old xs)
    (kept : (k : ℕ) → slice_get new k ≡ Some false → slice_get old k ≡ Some false) where
  pub added-to : n < length xs → same_arc (get_or xs n d).arc e.arc ≡ true → ys ≡ set xs n (raised (get_or xs n d) e.price) → IsAdded old new xs ys e
  added-to l same is = record {
    value = λ a.
        ap (λ (zs : List ArcPrice). listed_price zs a) is ∙ listed-raised xs n d e.price a l
        ∙ ap (λ (b : ArcKey). listed_price xs a +ℤ cond (same_arc b a) e.price (pos 0)) (same-arc (get_or xs n d).arc e.arc same);
    sorted = rw is (sorted-raised xs n d e.price l sorted);
    marked = rw is (All-set (IsMarked new) xs n (raised (get_or xs n d) e.price) (record { marked = (still n d l).marked }) (still-marked old new xs kept marks));
    small = λ m k all own. rw is (All-set (IsEntryWithin (m + k)) xs n (raised (get_or xs n d) e.price)
        (raised-within m k (m + k) (get_or xs n d) e.price refl (all n d l).price own.price)
        (entries-wider m (m + k) xs (omega arith) all));
    long = omega (arith, ap length is, length-set xs n (raised (get_or xs n d) e.price));
  }
    where
      still : (k : ℕ) (x : ArcPrice) → k < length xs → IsMarked new (get_or xs k x)
      still k x m = still-marked old new xs kept marks k x m

  pub put-in : IsSearched xs e.arc n n → (slice_get new (mark_place e.arc) ≡ Some false → ⊥) → ((c : ArcPrice) → n < length xs → same_arc (get_or xs n c).arc e.arc ≡ false)
      → ys ≡ insert xs n e → IsAdded old new xs ys e
  put-in h mark apart is = record {
    value = λ a. ap (λ (zs : List ArcPrice). listed_price zs a) is ∙ listed-insert xs n e a;
    sorted = rw is (sorted-insert xs n e sorted h apart);
    marked = rw is (All-insert (IsMarked new) xs n e (still-marked old new xs kept marks) (record { marked = mark }));
    small = λ m k all own. rw is (All-insert (IsEntryWithin (m + k)) xs n e (entries-wider m (m + k) xs (omega arith) all)
        (record { price = wider k (m + k) e.price (omega arith) own.price }));
    long = omega (arith, ap length is, length-insert xs n e h.within);
  }
