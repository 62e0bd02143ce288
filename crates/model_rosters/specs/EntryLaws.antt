-- The order of arcs, and what sorted entries make of the price of an arc.
use Rattle.std.proofs.Common.{◌≡◌, ℕ, zero, suc, ◌<◌, ◌⊎◌, inl, inr, Bool, true, false, List, [], ◌∷◌, length, get_or, refl, sym, ap, subst, ◌∙◌, arith, All, nat_lt, nat_eq, true≢false}
use Rattle.std.specs.Prelude.{pos, ◌&&◌, ◌||◌}
use Rattle.std.proofs.lemmas.Int.{ints}
use Rattle.std.proofs.lemmas.Bool.{eqb-true, eq-eqb}
use Rattle.std.proofs.lemmas.Bool.Decides.{nat_tests}
use Rattle.std.proofs.lemmas.List.Elements.{All-head, All-tail}
use Rattle.model_rosters.specs.declared.grammar.ArcKey.{ArcKey}
use Rattle.model_rosters.specs.declared.arc_prices.ArcPrice.{ArcPrice}
use Rattle.model_rosters.specs.ArcEntries.{comes_first, is_before, AreSorted, IsEntryWithin}
use Rattle.model_rosters.specs.Arcs.{same_arc, arc_numbers}
use Rattle.model_rosters.specs.RoomPrices.{entry_price, listed_price}
use Rattle.model_rosters.specs.Sums.{Within}

-- ---- the order of lists of numbers

first-step : (x y : ℕ) (b : Bool) → (nat_lt x y || (nat_eq x y && b)) ≡ true → (x < y)
    ⊎ ((x ≡ y) × (b ≡ true))
first-step x y true e = grind (arith, nat_tests)
first-step x y false e = grind (arith, nat_tests)

less-step : (x y : ℕ) (b : Bool) → x < y → (nat_lt x y || (nat_eq x y && b)) ≡ true
less-step x y b l = grind (arith, nat_tests)

same-step : (x y : ℕ) (b : Bool) → x ≡ y → b ≡ true → (nat_lt x y || (nat_eq x y && b)) ≡ true
same-step x y b l e = grind (arith, nat_tests)

-- no list comes before itself
pub first-irreflexive : (xs : List ℕ) → comes_first xs xs ≡ true → ⊥
first-irreflexive [] e = absurd (true≢false (sym e))
first-irreflexive (x ∷ xs) e = elim (first-step x x (comes_first xs xs) e) [
  | inl l ↦ absurd (omega arith)
  | inr h ↦ first-irreflexive xs h.1
]

pub first-trans : (xs ys zs : List ℕ) → comes_first xs ys ≡ true → comes_first ys zs ≡ true
    → comes_first xs zs ≡ true
first-trans [] ys zs e f = absurd (true≢false (sym e))
first-trans (x ∷ xs) [] zs e f = absurd (true≢false (sym e))
first-trans (x ∷ xs) (y ∷ ys) [] e f = f
first-trans (x ∷ xs) (y ∷ ys) (z ∷ zs) e f = by (first-step x y (comes_first xs ys) e)
    (first-step y z (comes_first ys zs) f) (λ h k. first-trans xs ys zs h k)
  where
    by : (x < y) ⊎ ((x ≡ y) × (comes_first xs ys ≡ true)) → (y < z) ⊎ ((y ≡ z) × (comes_first ys zs ≡ true))
        → (comes_first xs ys ≡ true → comes_first ys zs ≡ true → comes_first xs zs ≡ true)
        → comes_first (x ∷ xs) (z ∷ zs) ≡ true
    by (inl l) (inl m) ih = less-step x z (comes_first xs zs) (omega arith)
    by (inl l) (inr m) ih = less-step x z (comes_first xs zs) (omega (arith, m.0))
    by (inr l) (inl m) ih = less-step x z (comes_first xs zs) (omega (arith, l.0))
    by (inr l) (inr m) ih = same-step x z (comes_first xs zs) (l.0 ∙ m.0) (ih l.1 m.1)

-- of two lists of one length that are not the same, one comes first
pub first-or : (xs ys : List ℕ) → length xs ≡ length ys → comes_first xs ys ≡ false
    → (comes_first ys xs ≡ true) ⊎ (xs ≡ ys)
first-or [] [] e f = inr refl
first-or [] (y ∷ ys) e f = absurd (omega (arith, e))
first-or (x ∷ xs) [] e f = absurd (omega (arith, e))
first-or (x ∷ xs) (y ∷ ys) e f = by (three x y) (λ h. first-or xs ys (omega (arith, e)) h)
  where
    three : (k m : ℕ) → (k < m) ⊎ ((m < k) ⊎ (k ≡ m))
    three k m = grind arith

    under : (b : Bool) → x ≡ y → (nat_lt x y || (nat_eq x y && b)) ≡ false → b ≡ false
    under true s h = absurd (true≢false (sym (same-step x y true s refl) ∙ h))
    under false s h = refl

    by : (x < y) ⊎ ((y < x) ⊎ (x ≡ y)) → (comes_first xs ys ≡ false → (comes_first ys xs ≡ true) ⊎ (xs ≡ ys))
        → (comes_first (y ∷ ys) (x ∷ xs) ≡ true) ⊎ (x ∷ xs ≡ y ∷ ys)
    by (inl l) ih = absurd (true≢false (sym (less-step x y (comes_first xs ys) l) ∙ f))
    by (inr (inl l)) ih = inl (less-step y x (comes_first ys xs) l)
    by (inr (inr s)) ih = elim (ih (under (comes_first xs ys) s f)) [
      | inl h ↦ inl (same-step y x (comes_first ys xs) (sym s) h)
      | inr h ↦ inr cc
    ]

-- ---- the order of arcs

and-both : (s t : Bool) → (s && t) ≡ true → (s ≡ true) × (t ≡ true)
and-both true true e = (refl, refl)
and-both true false e = cc
and-both false true e = cc
and-both false false e = cc

pub same-arc : (a b : ArcKey) → same_arc a b ≡ true → a ≡ b
same-arc a b e =
    let h4 = and-both _ (nat_eq a.part b.part) e in
    let h3 = and-both _ (nat_eq a.len b.len) h4.0 in
    let h2 = and-both _ (nat_eq a.start b.start) h3.0 in
    let h1 = and-both (nat_eq a.rule b.rule) (nat_eq a.suffix b.suffix) h2.0 in
    let e0 = eqb-true a.rule b.rule h1.0 in
    let e1 = eqb-true a.suffix b.suffix h1.1 in
    let e2 = eqb-true a.start b.start h2.1 in
    let e3 = eqb-true a.len b.len h3.1 in
    let e4 = eqb-true a.part b.part h4.1 in
    five a.rule b.rule a.suffix b.suffix a.start b.start a.len b.len a.part b.part e0 e1 e2 e3 e4
  where
    five : (r r' k k' i i' l l' s s' : ℕ) → r ≡ r' → k ≡ k' → i ≡ i' → l ≡ l' → s ≡ s'
        → ◌≡◌ {A = ArcKey} (record { rule = r; suffix = k; start = i; len = l; part = s })
        (record { rule = r'; suffix = k'; start = i'; len = l'; part = s' })
    five r r' k k' i i' l l' s s' a b c d e = cc

-- the same numbers are those of one arc
same-numbers : (a b : ArcKey) → arc_numbers a ≡ arc_numbers b → same_arc a b ≡ true
same-numbers a b e =
    let e0 = eq-eqb a.rule b.rule cc in
    let e1 = eq-eqb a.suffix b.suffix cc in
    let e2 = eq-eqb a.start b.start cc in
    let e3 = eq-eqb a.len b.len cc in
    let e4 = eq-eqb a.part b.part cc in
    rw (e0, e1, e2, e3, e4) refl

pub not-before-itself : (a : ArcKey) → is_before a a ≡ true → ⊥
not-before-itself a e = first-irreflexive (arc_numbers a) e

pub before-trans : (a b c : ArcKey) → is_before a b ≡ true → is_before b c ≡ true → is_before a c ≡ true
before-trans a b c e f = first-trans (arc_numbers a) (arc_numbers b) (arc_numbers c) e f

-- what comes before an arc is another one
pub before-other : (a b : ArcKey) → is_before a b ≡ true → same_arc a b ≡ false
before-other a b e = by (same_arc a b) refl
  where
    by : (s : Bool) → same_arc a b ≡ s → same_arc a b ≡ false
    by true s = absurd (not-before-itself b (ap (λ (x : ArcKey). is_before x b) (sym (same-arc a b s)) ∙ e))
    by false s = s

-- what comes after an arc is another one
pub after-other : (a b : ArcKey) → is_before a b ≡ true → same_arc b a ≡ false
after-other a b e = by (same_arc b a) refl
  where
    by : (s : Bool) → same_arc b a ≡ s → same_arc b a ≡ false
    by true s = absurd (not-before-itself a (ap (λ (x : ArcKey). is_before a x) (sym (same-arc b a s)) ∙ e))
    by false s = s

-- of two arcs that are not the same, one comes before the other
pub before-or : (a b : ArcKey) → is_before a b ≡ false → same_arc a b ≡ false → is_before b a ≡ true
before-or a b e f = elim (first-or (arc_numbers a) (arc_numbers b) refl e) [
  | inl h ↦ h
  | inr h ↦ absurd (true≢false (sym (same-numbers a b h) ∙ f))
]

-- ---- the price of an arc

no-entry : (x : ArcPrice) (a : ArcKey) → same_arc x.arc a ≡ false → entry_price a x ≡ pos 0
no-entry x a e = rw e refl

-- no entry has the arc
pub listed-none : (xs : List ArcPrice) (a : ArcKey)
    → ((k : ℕ) (d : ArcPrice) → k < length xs → same_arc (get_or xs k d).arc a ≡ false)
    → listed_price xs a ≡ pos 0
listed-none [] a h = refl
listed-none (x ∷ xs) a h =
    let first = no-entry x a (h 0 x (omega arith)) in
    let rest = listed-none xs a (λ k d l. h (suc k) d (omega (arith, l))) in
    omega (arith, ints, first, rest)

-- one entry may have the arc
pub listed-one : (xs : List ArcPrice) (a : ArcKey) (n : ℕ) (e : ArcPrice) → n < length xs
    → ((k : ℕ) (d : ArcPrice) → k < length xs → (k ≡ n → ⊥) → same_arc (get_or xs k d).arc a ≡ false)
    → listed_price xs a ≡ entry_price a (get_or xs n e)
listed-one [] a n e l h = absurd (omega (arith, l))
listed-one (x ∷ xs) a zero e l h =
    let rest = listed-none xs a (λ k d m. h (suc k) d (omega (arith, m)) (λ s. absurd (omega (arith, s)))) in
    omega (arith, ints, rest)
listed-one (x ∷ xs) a (suc n) e l h =
    let first = no-entry x a (h 0 x (omega arith) (λ s. absurd (omega (arith, s)))) in
    let rest = listed-one xs a n e (omega (arith, l))
    (λ k d m o. h (suc k) d (omega (arith, m)) (λ s. o (omega (arith, s)))) in
    omega (arith, ints, first, rest)

-- ---- the price of an arc is small

sorted-tail : (x : ArcPrice) (xs : List ArcPrice) → AreSorted (x ∷ xs) → AreSorted xs
sorted-tail x xs h =
    record { rising = λ j k d l m. h.rising (suc j) (suc k) d (omega (arith, l)) (omega (arith, m)) }

pub listed-within : (n : ℕ) (xs : List ArcPrice) (a : ArcKey) → AreSorted xs → All (IsEntryWithin n) xs
    → Within n (listed_price xs a)
listed-within n [] a sorted h = record { low = omega (arith, ints); high = omega (arith, ints) }
listed-within n (x ∷ xs) a sorted h = by (same_arc x.arc a) refl
    (listed-within n xs a (sorted-tail x xs sorted) (All-tail (IsEntryWithin n) x xs h))
  where
    own : Within n x.price
    own = (All-head (IsEntryWithin n) x xs h).price

    others : same_arc x.arc a ≡ true → listed_price xs a ≡ pos 0
    others s = listed-none xs a (λ k d l.
        after-other a (get_or xs k d).arc (subst (λ (b : ArcKey). is_before b (get_or xs k d).arc ≡ true)
        (same-arc x.arc a s)
        (sorted.rising 0 (suc k) d (omega arith) (omega (arith, l)))))

    by : (b : Bool) → same_arc x.arc a ≡ b → Within n (listed_price xs a) → Within n (listed_price (x ∷ xs) a)
    by true s w =
        let here : entry_price a x ≡ x.price = rw s refl in
        let rest = others s in
        record {
          low = omega (arith, ints, here, rest, own.low);
          high = omega (arith, ints, here, rest, own.high);
        }
    by false s w =
        let here = no-entry x a s in
        record { low = omega (arith, ints, here, w.low); high = omega (arith, ints, here, w.high) }
