-- The order of a pool's numbers: how rule uses compare, what a search finds, and one number more.
use Rattle.std.proofs.Common.{◌≡◌, ◌⊎◌, inl, inr, ℕ, zero, suc, ◌+◌, ◌-◌, ◌<◌, ◌≤◌, Bool, true, false, min, List, [], ◌∷◌, ◌++◌, Result, Ok, Err, Some, All, Contains, length, get_or, drop, IfOk, IfErr, refl, sym, ap, ◌∙◌, arith, true≢false, length-append}
use Rattle.std.specs.Prelude.{slice_get}
use Rattle.std.specs.Cmp.{IsTotalOrder, nat_cmp_total, nat_cmp_is, on_total, then_total, tied_itself}
use Rattle.std.specs.Cmp.Lexicographic.{lists_total}
use Rattle.std.specs.List.{insert}
use Rattle.std.specs.List.Sorted.{IsBinarySearchResult, IsSearchInRange, IsSortedBy}
use Rattle.std.specs.Ordering.{MatchOrdering, nat_cmp, ordering_then, ordering_reverse, is_ne, is_lt}
use Rattle.std.specs.declared.cmp.Ordering.{Ordering}
use Rattle.std.specs.declared.cmp.Ordering.TheVariants.{Less, Equal, Greater}
use Rattle.std.proofs.lemmas.List.Edits.{length-insert, get_or-insert_below, get_or-insert_at, get_or-insert_above}
use Rattle.std.proofs.lemmas.List.Elements.{All-cons, Contains-append_right}
use Rattle.std.proofs.lemmas.List.Sorted.{searchable_from_sorted, IsPermutation-insert, All-permutation, Contains-permutation}
use Rattle.model_rosters.specs.declared.grammar.Step.{Step}
use Rattle.tree_pool.specs.declared.entry.Entry.{Entry}
use Rattle.tree_pool.specs.Orders.{Rank, rank_of, rank_cmp, step_cmp, steps_cmp, steps_of, IsOrder, IsFoundAt, IsPlaceFor}
use Rattle.tree_pool.proofs.ArcOrderLemmas.{both_equal, less-equal, greater-equal, three_ways, same_number}

-- ---- rule uses

rank_total : IsTotalOrder rank_cmp
rank_total = then_total (then_total (on_total (λ (r : Rank). r.0) nat_cmp_total) (on_total (λ (r : Rank). r.1) nat_cmp_total)) (on_total (λ (r : Rank). r.2) nat_cmp_total)

steps_total : IsTotalOrder steps_cmp
steps_total = lists_total (on_total rank_of rank_total)

same_step : (a b : Step) → step_cmp a b ≡ Equal → a ≡ b
same_step a b e =
    let h2 = both_equal _ (nat_cmp a.len b.len) e in
    let h1 = both_equal _ (nat_cmp a.start b.start) h2.0 in
    three a.rule b.rule a.start b.start a.len b.len (same_number a.rule b.rule h1.0) (same_number a.start b.start h1.1) (same_number a.len b.len h2.1)
  where
    three : (r r' i i' l l' : ℕ) → r ≡ r' → i ≡ i' → l ≡ l'
        → ◌≡◌ {A = Step} (record { rule = r; start = i; len = l }) (record { rule = r'; start = i'; len = l' })
    three r r' i i' l l' a b c = cc

same_steps : (xs ys : List Step) → steps_cmp xs ys ≡ Equal → xs ≡ ys
same_steps [] [] e = refl
same_steps [] (y ∷ ys) e = absurd (less-equal e)
same_steps (x ∷ xs) [] e = absurd (greater-equal e)
same_steps (x ∷ xs) (y ∷ ys) e =
    let h = both_equal (step_cmp x y) (steps_cmp xs ys) e in
    let a = same_step x y h.0 in
    let b = same_steps xs ys h.1 in
    cc

-- ---- how they compare from a place on

first_equal : (o p : Ordering) → is_ne o ≡ false → ordering_then o p ≡ p
first_equal Less p e = absurd (true≢false e)
first_equal Equal p e = refl
first_equal Greater p e = absurd (true≢false e)

first_other : (o p : Ordering) → is_ne o ≡ true → ordering_then o p ≡ o
first_other Less p e = refl
first_other Equal p e = absurd (true≢false (sym e))
first_other Greater p e = refl

-- a place at which they are the same
pub compare-more : (xs ys : List Step) (i : ℕ) (d : Step) → i < length xs → i < length ys → is_ne (step_cmp (get_or xs i d) (get_or ys i d)) ≡ false
    → steps_cmp (drop i xs) (drop i ys) ≡ steps_cmp (drop (i + 1) xs) (drop (i + 1) ys)
compare-more [] ys i d l m e = absurd (omega (arith, l))
compare-more (x ∷ xs) [] i d l m e = absurd (omega (arith, m))
compare-more (x ∷ xs) (y ∷ ys) zero d l m e = first_equal (step_cmp x y) (steps_cmp xs ys) e
compare-more (x ∷ xs) (y ∷ ys) (suc i) d l m e =
    let next : suc i + 1 ≡ suc (i + 1) = omega arith in
    rw next (compare-more xs ys i d (omega (arith, l)) (omega (arith, m)) e)

-- a place at which they differ
pub compare-other : (xs ys : List Step) (i : ℕ) (d : Step) → i < length xs → i < length ys → is_ne (step_cmp (get_or xs i d) (get_or ys i d)) ≡ true
    → steps_cmp (drop i xs) (drop i ys) ≡ step_cmp (get_or xs i d) (get_or ys i d)
compare-other [] ys i d l m e = absurd (omega (arith, l))
compare-other (x ∷ xs) [] i d l m e = absurd (omega (arith, m))
compare-other (x ∷ xs) (y ∷ ys) zero d l m e = first_other (step_cmp x y) (steps_cmp xs ys) e
compare-other (x ∷ xs) (y ∷ ys) (suc i) d l m e = compare-other xs ys i d (omega (arith, l)) (omega (arith, m)) e

-- one of them ends
pub compare-end : (xs ys : List Step) (i : ℕ) → i ≡ min (length xs) (length ys) → steps_cmp (drop i xs) (drop i ys) ≡ nat_cmp (length xs) (length ys)
compare-end [] [] i e =
    let none : i ≡ 0 = omega (arith, e) in
    rw none refl
compare-end [] (y ∷ ys) i e =
    let none : i ≡ 0 = omega (arith, e) in
    rw none (nat_cmp_is 0 (length (y ∷ ys)) Less (omega arith))
compare-end (x ∷ xs) [] i e =
    let none : i ≡ 0 = omega (arith, e) in
    rw none (nat_cmp_is (length (x ∷ xs)) 0 Greater (omega arith))
compare-end (x ∷ xs) (y ∷ ys) zero e = absurd (omega (arith, e))
compare-end (x ∷ xs) (y ∷ ys) (suc i) e = compare-end xs ys i (omega (arith, e)) ∙ up (length xs) (length ys) (three_ways (length xs) (length ys))
  where
    up : (a b : ℕ) → MatchOrdering Less (a < b) (a ≡ b) (b < a) ⊎ (MatchOrdering Equal (a < b) (a ≡ b) (b < a) ⊎ MatchOrdering Greater (a < b) (a ≡ b) (b < a)) → nat_cmp a b ≡ nat_cmp (suc a) (suc b)
    up a b (inl h) = sym (nat_cmp_is a b Less h) ∙ nat_cmp_is (suc a) (suc b) Less (omega (arith, h))
    up a b (inr (inl h)) = sym (nat_cmp_is a b Equal h) ∙ nat_cmp_is (suc a) (suc b) Equal (omega (arith, h))
    up a b (inr (inr h)) = sym (nat_cmp_is a b Greater h) ∙ nat_cmp_is (suc a) (suc b) Greater (omega (arith, h))

-- ---- the rule uses of a number

pub entry-at : (es : List Entry) (n : ℕ) → n < length es → (e : Entry) × (slice_get es n ≡ Some e) × (steps_of es n ≡ e.tree.steps)
entry-at [] n l = absurd (omega (arith, l))
entry-at (e ∷ es) zero l = (e, refl, refl)
entry-at (e ∷ es) (suc n) l = entry-at es n (omega (arith, l))

pub steps-at : (es : List Entry) (n : ℕ) (e : Entry) → slice_get es n ≡ Some e → steps_of es n ≡ e.tree.steps
steps-at [] n e h = cc
steps-at (f ∷ es) zero e h = ap (λ (x : Entry). x.tree.steps) (same f e h)
  where
    same : (x y : Entry) → Some x ≡ Some y → x ≡ y
    same x y e = cc
steps-at (f ∷ es) (suc n) e h = steps-at es n e h

pub steps-none : (es : List Entry) (n : ℕ) → length es ≤ n → steps_of es n ≡ []
steps-none [] n l = refl
steps-none (e ∷ es) zero l = absurd (omega (arith, l))
steps-none (e ∷ es) (suc n) l = steps-none es n (omega (arith, l))

steps-left : (es fs : List Entry) (n : ℕ) → n < length es → steps_of (es ++ fs) n ≡ steps_of es n
steps-left [] fs n l = absurd (omega (arith, l))
steps-left (e ∷ es) fs zero l = refl
steps-left (e ∷ es) fs (suc n) l = steps-left es fs n (omega (arith, l))

steps-last : (es : List Entry) (e : Entry) → steps_of (es ++ e ∷ []) (length es) ≡ e.tree.steps
steps-last [] e = refl
steps-last (f ∷ es) e = steps-last es e

-- ---- one item more in a sorted list

module _ {X : Type 0} (lt : X → X → Bool) (xs : List X) (i : ℕ) (y : X) (within : i ≤ length xs) where
  sorted-insert : IsSortedBy lt xs → ((k : ℕ) (d : X) → k < i → lt y (get_or xs k d) ≡ false) → ((k : ℕ) (d : X) → i ≤ k → k < length xs → lt (get_or xs k d) y ≡ false) → IsSortedBy lt (insert xs i y)
  sorted-insert sorted before after k d low l = by (order (k + 1) i) (order k i)
    where
      order : (a b : ℕ) → (a < b) ⊎ ((a ≡ b) ⊎ (b < a))
      order a b = grind arith

      bound : k < length xs
      bound = omega (arith, l, length-insert xs i y within)

      by : (k + 1 < i) ⊎ ((k + 1 ≡ i) ⊎ (i < k + 1)) → (k < i) ⊎ ((k ≡ i) ⊎ (i < k)) → lt (get_or (insert xs i y) (k + 1) d) (get_or (insert xs i y) k d) ≡ false
      by (inl b) o = rw (get_or-insert_below xs i y d (k + 1) b within, get_or-insert_below xs i y d k (omega (arith, b)) within) (sorted k d low (omega (arith, b, within)))
      by (inr (inl e)) o =
          let at : get_or (insert xs i y) (k + 1) d ≡ y = ap (λ (n : ℕ). get_or (insert xs i y) n d) e ∙ get_or-insert_at xs i y d within in
          rw (at, get_or-insert_below xs i y d k (omega (arith, e)) within) (before k d (omega (arith, e)))
      by (inr (inr b)) (inl o) = absurd (omega (arith, b, o))
      by (inr (inr b)) (inr (inl e)) =
          let at : get_or (insert xs i y) k d ≡ y = ap (λ (n : ℕ). get_or (insert xs i y) n d) e ∙ get_or-insert_at xs i y d within in
          rw (at, get_or-insert_above xs i y d k (omega (arith, e)) within) (after k d (omega (arith, e)) bound)
      by (inr (inr b)) (inr (inr a)) =
          let back : k ≡ k - 1 + 1 = omega (arith, a) in
          let at : get_or (insert xs i y) k d ≡ get_or xs (k - 1) d = ap (λ (n : ℕ). get_or (insert xs i y) n d) back ∙ get_or-insert_above xs i y d (k - 1) (omega (arith, a)) within in
          let next : get_or xs k d ≡ get_or xs (k - 1 + 1) d = ap (λ (n : ℕ). get_or xs n d) back in
          rw (at, get_or-insert_above xs i y d k (omega (arith, a)) within, next) (sorted (k - 1) d (omega arith) (omega (arith, a, bound)))

-- ---- the search

module _ (es : List Entry) (ns : List ℕ) (order : IsOrder es ns) (xs : List Step) where
  -- what a search answers
  pub placed : (r : Result ℕ ℕ) → IsSearchInRange r (length ns) → IsBinarySearchResult (λ n. steps_cmp (steps_of es n) xs) ns r → IfOk r (IsFoundAt es ns xs) × IfErr r (IsPlaceFor es ns xs)
  placed (Ok p) l h = ((l, same_steps (steps_of es (get_or ns p 0)) xs (h 0)), tt)
  placed (Err p) l h = (tt, record { within = l; parts = h (searchable_from_sorted steps_total (steps_of es) ns xs order.ascending) })

  -- the number of a tree that is found is one of the pool
  pub found-within : (p : ℕ) → IsFoundAt es ns xs p → get_or ns p 0 < length es
  found-within p h = order.within p 0 h.0

  -- no tree has these rule uses where they have a place of their own
  pub none-there : (p : ℕ) → IsPlaceFor es ns xs p → (n : ℕ) → n < length es → steps_of es n ≡ xs → ⊥
  none-there p place n l e = side (before_or_not at.0 p)
    where
      at : Contains ns n
      at = order.each n l

      tie : steps_cmp (steps_of es (get_or ns at.0 n)) xs ≡ Equal
      tie = ap (λ (m : ℕ). steps_cmp (steps_of es m) xs) at.2 ∙ ap (λ (ys : List Step). steps_cmp ys xs) e ∙ tied_itself steps_total xs

      before_or_not : (a b : ℕ) → (a < b) ⊎ (b ≤ a)
      before_or_not a b = grind arith

      side : (at.0 < p) ⊎ (p ≤ at.0) → ⊥
      side (inl b) = less-equal (sym (place.parts.0 at.0 n (omega arith) b) ∙ tie)
      side (inr b) = greater-equal (sym (place.parts.1 at.0 n b at.1) ∙ tie)

-- ---- one number more

module _ (es : List Entry) (ns : List ℕ) (order : IsOrder es ns) (e : Entry) (p : ℕ) (place : IsPlaceFor es ns e.tree.steps p) where
  abbrev all : List Entry
  all = es ++ e ∷ []

  key-same : (k d : ℕ) → k < length ns → steps_of all (get_or ns k d) ≡ steps_of es (get_or ns k d)
  key-same k d l = steps-left es (e ∷ []) (get_or ns k d) (order.within k d l)

  more-long : length all ≡ length es + 1
  more-long = length-append es (e ∷ [])

  abbrev lt : ℕ → ℕ → Bool
  lt a b = is_lt (steps_cmp (steps_of all a) (steps_of all b))

  not-less : (a b : List Step) → steps_cmp a b ≡ Less → is_lt (steps_cmp b a) ≡ false
  not-less a b h = ap is_lt (steps_total.antisymm b a ∙ ap ordering_reverse h)

  sorted : IsSortedBy lt (insert ns p (length es))
  sorted = sorted-insert lt ns p (length es) place.within
      (λ k d low l. rw (key-same (k + 1) d l, key-same k d (omega (arith, l))) (order.ascending k d low l))
      (λ k d b. rw (steps-last es e, key-same k d (omega (arith, b, place.within))) (not-less (steps_of es (get_or ns k d)) e.tree.steps (place.parts.0 k d (omega arith) b)))
      (λ k d a l. rw (steps-last es e, key-same k d l) (ap is_lt (place.parts.1 k d a l)))

  each : (n : ℕ) → n < length all → Contains (insert ns p (length es)) n
  each n l = Contains-permutation (length es ∷ ns) (insert ns p (length es)) n (IsPermutation-insert ns p (length es)) (by (last_or_not n (length es) (omega (arith, l, more-long))))
    where
      last_or_not : (a b : ℕ) → a < b + 1 → (a < b) ⊎ (a ≡ b)
      last_or_not a b l = grind arith

      by : (n < length es) ⊎ (n ≡ length es) → Contains (length es ∷ ns) n
      by (inl b) = Contains-append_right (length es ∷ []) ns n (order.each n b)
      by (inr e) = (0, omega arith, sym e)

  within : All (λ n. n < length all) (insert ns p (length es))
  within =
      All-permutation (λ n. n < length all) (length es ∷ ns) (insert ns p (length es)) (IsPermutation-insert ns p (length es))
      (All-cons (λ n. n < length all) (length es) ns (omega (arith, more-long)) (λ k d l. omega (arith, order.within k d l, more-long)))

  pub order-more : IsOrder all (insert ns p (length es))
  order-more = record { ascending = sorted; each = each; within = within }
