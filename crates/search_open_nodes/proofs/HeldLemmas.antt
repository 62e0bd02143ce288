-- What a heap of entries and a slab hold once an entry is added or removed.
use Rattle.std.proofs.Common.{rules, ◌≡◌, ◌≢◌, ℕ, arith, ◌+◌, ◌≤◌, ◌<◌, Bool, true, false, cond, nat_eq, List, [], ◌∷◌, map, refl, ap, sym, subst, ◌∙◌, ◌⊎◌, inl, inr, Option, Some, None}
use Rattle.std.specs.Prelude.{IsSome, IsOk, OnOk, Result, Ok, Err}
use Rattle.std.specs.List.{sum_by}
use Rattle.std.specs.List.Sorted.{IsPermutation}
use Rattle.std.specs.Ordering.{is_lt, nat_cmp}
use Rattle.std.specs.Cmp.{nat_cmp_is}
use Rattle.std.specs.declared.cmp.Ordering.TheVariants.{Less}
use Rattle.std.specs.BinaryHeap.{IsUpperBound}
use Rattle.std.proofs.lemmas.Bool.{eq-eqb}
use Rattle.std.proofs.lemmas.Bool.Decides.{eqb_tells}
use Rattle.std.proofs.lemmas.List.Sorted.{sum_by-IsPermutation}
use Rattle.std.proofs.lemmas.List.Sums.{sum_by-cons}
use Rattle.slab.specs.Slab.{Slab, get, Updates}
use Rattle.model_rosters.specs.Folds.{count, Each}
use Rattle.search_open_nodes.specs.declared.entry.Entry.{Entry}
use Rattle.search_open_nodes.specs.declared.leaf.Kept.{Kept}
use Rattle.search_open_nodes.specs.declared.leaf.OpenLeaf.{OpenLeaf}
use Rattle.search_open_nodes.specs.contracts.entry.EntryOrd.TheImpl as order
use Rattle.search_open_nodes.specs.Held.{kept_of, leaf_of, taken, AreHeld}

-- what holds after a success
pub on-ok : {T E : Type 0} (r : Result T E) (P : Type 0) → IsOk r → OnOk r P → P
on-ok (Ok x) P is h = h
on-ok (Err e) P is h = cc

module _ {X : Type 0} (p : X → Bool) where
  count_is : (xs : List X) → count p xs ≡ sum_by (λ x. cond (p x) 1 0) xs
  count_is [] = refl
  count_is (x ∷ xs) = ap (λ (n : ℕ). cond (p x) 1 0 + n) (count_is xs) ∙ sym (sum_by-cons (λ x. cond (p x) 1 0) x xs)

  -- a list in another order has as many
  count-permutation : (xs ys : List X) → IsPermutation xs ys → count p ys ≡ count p xs
  count-permutation xs ys h = count_is ys ∙ sum_by-IsPermutation (λ x. cond (p x) 1 0) xs ys h ∙ sym (count_is xs)

-- the entries of a key
abbrev at_key : ℕ → Entry → Bool
at_key k e = nat_eq k e.key

count-map : (q : OpenLeaf → Bool) (s : Slab Kept) (es : List Entry) → count q (map (leaf_of s) es) ≡ count (λ (e : Entry). q (leaf_of s e)) es
count-map q s [] = refl
count-map q s (e ∷ es) = ap (λ (n : ℕ). cond (q (leaf_of s e)) 1 0 + n) (count-map q s es)

-- the leaf of an entry under whose key this stands
abbrev pub with_kept : Entry → Option Kept → OpenLeaf
with_kept e o = record { bound = e.bound.0; depth = e.depth; kept = kept_of e o }

-- leaves whose entries have other keys are the same
same-leaves : (q : OpenLeaf → Bool) (s r : Slab Kept) (k : ℕ) (es : List Entry) → ((j : ℕ) → j ≢ k → get r j ≡ get s j)
    → count (at_key k) es ≡ 0 → count (λ (e : Entry). q (leaf_of r e)) es ≡ count (λ (e : Entry). q (leaf_of s e)) es
same-leaves q s r k [] same none = refl
same-leaves q s r k (e ∷ es) same none = by (eqb_tells k e.key) (λ h. same-leaves q s r k es same h)
  where
    by : (nat_eq k e.key ≡ true) × (k ≡ e.key) ⊎ (nat_eq k e.key ≡ false) × (k ≢ e.key)
        → (count (at_key k) es ≡ 0 → count (λ (e : Entry). q (leaf_of r e)) es ≡ count (λ (e : Entry). q (leaf_of s e)) es)
        → count (λ (e : Entry). q (leaf_of r e)) (e ∷ es) ≡ count (λ (e : Entry). q (leaf_of s e)) (e ∷ es)
    by (inl t) ih = let z : ◌≡◌ {A = ℕ} (cond (nat_eq k e.key) 1 0) 1 = rw t.0 refl in absurd (omega (arith, z, none))
    by (inr t) ih =
        let z : ◌≡◌ {A = ℕ} (cond (nat_eq k e.key) 1 0) 0 = rw t.0 refl in
        let here : leaf_of r e ≡ leaf_of s e = ap (with_kept e) (same e.key (λ h. t.1 (sym h))) in
        let more : ◌≡◌ {A = ℕ} (cond (q (leaf_of r e)) 1 0) (cond (q (leaf_of s e)) 1 0) = ap (λ (o : OpenLeaf). cond (q o) 1 0) here in
        omega (arith, more, ih (omega (arith, z, none)))

one : (o : Option Kept) → taken o ≤ 1
one None = omega arith
one (Some kept) = omega arith

some : (o : Option Kept) → 1 ≤ taken o → IsSome o
some None h = absurd (omega (arith, h))
some (Some kept) h = search rules

own-key : (e : Entry) (es : List Entry) → count (at_key e.key) (e ∷ es) ≡ 1 + count (at_key e.key) es
own-key e es = let z : ◌≡◌ {A = ℕ} (cond (nat_eq e.key e.key) 1 0) 1 = rw (eq-eqb e.key e.key refl) refl in omega (arith, z)

-- ---- an entry is added under a key that was free

module _ (s r : Slab Kept) (e : Entry) (es fs : List Entry) (kept : Kept) (held : AreHeld es s) (free : get s e.key ≡ None)
    (updates : Updates s r e.key (Some kept)) (moved : IsPermutation (e ∷ es) fs) where
  none : count (at_key e.key) es ≡ 0
  none = let z : ◌≡◌ {A = ℕ} (taken (get s e.key)) 0 = ap taken free in omega (arith, z, held e.key)

  pub held-pushed : AreHeld fs r
  held-pushed k = by (eqb_tells k e.key)
    where
      all : count (at_key k) fs ≡ cond (nat_eq k e.key) 1 0 + count (at_key k) es
      all = count-permutation (at_key k) (e ∷ es) fs moved

      by : (nat_eq k e.key ≡ true) × (k ≡ e.key) ⊎ (nat_eq k e.key ≡ false) × (k ≢ e.key) → count (at_key k) fs ≤ taken (get r k)
      by (inl t) =
          let z : ◌≡◌ {A = ℕ} (cond (nat_eq k e.key) 1 0) 1 = rw t.0 refl in
          let zero_left : count (at_key k) es ≡ 0 = subst (λ (j : ℕ). count (at_key j) es ≡ 0) (sym t.1) none in
          let there : ◌≡◌ {A = ℕ} (taken (get r k)) 1 = ap (λ (j : ℕ). taken (get r j)) t.1 ∙ ap taken updates.changed in
          omega (arith, z, all, zero_left, there)
      by (inr t) =
          let z : ◌≡◌ {A = ℕ} (cond (nat_eq k e.key) 1 0) 0 = rw t.0 refl in
          let there : ◌≡◌ {A = ℕ} (taken (get r k)) (taken (get s k)) = ap taken (updates.others k t.1) in
          omega (arith, z, all, held k, there)

  pub leaves-pushed : (q : OpenLeaf → Bool) (leaf : OpenLeaf) → with_kept e (Some kept) ≡ leaf
      → cond (q leaf) 1 0 + count q (map (leaf_of s) es) ≡ count q (map (leaf_of r) fs)
  leaves-pushed q leaf is =
      let here : leaf_of r e ≡ leaf = ap (with_kept e) updates.changed ∙ is in
      let first : ◌≡◌ {A = ℕ} (cond (q (leaf_of r e)) 1 0) (cond (q leaf) 1 0) = ap (λ (o : OpenLeaf). cond (q o) 1 0) here in
      let all : count (λ (x : Entry). q (leaf_of r x)) fs ≡ cond (q (leaf_of r e)) 1 0 + count (λ (x : Entry). q (leaf_of r x)) es = count-permutation (λ (x : Entry). q (leaf_of r x)) (e ∷ es) fs moved in
      omega (arith, first, all, count-map q s es, count-map q r fs, same-leaves q s r e.key es updates.others none)

-- ---- an entry is removed, and what stands under its key

module _ (s : Slab Kept) (e : Entry) (es fs : List Entry) (held : AreHeld es s) (moved : IsPermutation es (e ∷ fs)) where
  counted : 1 + count (at_key e.key) fs ≤ taken (get s e.key)
  counted =
      let all : count (at_key e.key) (e ∷ fs) ≡ count (at_key e.key) es = count-permutation (at_key e.key) es (e ∷ fs) moved in
      omega (arith, all, own-key e fs, held e.key)

  pub taken-key : IsSome (get s e.key)
  taken-key = some (get s e.key) (omega (arith, counted))

  module _ (r : Slab Kept) (updates : Updates s r e.key None) where
    gone : count (at_key e.key) fs ≡ 0
    gone = omega (arith, counted, one (get s e.key))

    pub held-popped : AreHeld fs r
    held-popped k = by (eqb_tells k e.key)
      where
        all : cond (nat_eq k e.key) 1 0 + count (at_key k) fs ≡ count (at_key k) es
        all = count-permutation (at_key k) es (e ∷ fs) moved

        by : (nat_eq k e.key ≡ true) × (k ≡ e.key) ⊎ (nat_eq k e.key ≡ false) × (k ≢ e.key) → count (at_key k) fs ≤ taken (get r k)
        by (inl t) =
            let zero_left : count (at_key k) fs ≡ 0 = subst (λ (j : ℕ). count (at_key j) fs ≡ 0) (sym t.1) gone in
            omega (arith, zero_left)
        by (inr t) =
            let z : ◌≡◌ {A = ℕ} (cond (nat_eq k e.key) 1 0) 0 = rw t.0 refl in
            let there : ◌≡◌ {A = ℕ} (taken (get r k)) (taken (get s k)) = ap taken (updates.others k t.1) in
            omega (arith, z, all, held k, there)

    pub leaves-popped : (q : OpenLeaf → Bool) (kept : Kept) → get s e.key ≡ Some kept
        → count q (map (leaf_of s) es) ≡ cond (q (with_kept e (Some kept))) 1 0 + count q (map (leaf_of r) fs)
    leaves-popped q kept is =
        let here : leaf_of s e ≡ with_kept e (Some kept) = ap (with_kept e) is in
        let first : ◌≡◌ {A = ℕ} (cond (q (leaf_of s e)) 1 0) (cond (q (with_kept e (Some kept))) 1 0) = ap (λ (o : OpenLeaf). cond (q o) 1 0) here in
        let all : cond (q (leaf_of s e)) 1 0 + count (λ (x : Entry). q (leaf_of s x)) fs ≡ count (λ (x : Entry). q (leaf_of s x)) es = count-permutation (λ (x : Entry). q (leaf_of s x)) es (e ∷ fs) moved in
        omega (arith, first, all, count-map q s es, count-map q r fs, same-leaves q s r e.key fs updates.others gone)

-- ---- the first entry's bound is the least

least : (x y : Entry) → is_lt (order.cmp-value.it x y) ≡ false → x.bound.0 ≤ y.bound.0
least x y e = by (split y.bound.0 x.bound.0)
  where
    split : (m n : ℕ) → (m < n) ⊎ (n ≤ m)
    split m n = grind arith

    by : (y.bound.0 < x.bound.0) ⊎ (x.bound.0 ≤ y.bound.0) → x.bound.0 ≤ y.bound.0
    by (inr le) = le
    by (inl lt) =
        let c : Less ≡ nat_cmp y.bound.0 x.bound.0 = nat_cmp_is y.bound.0 x.bound.0 Less lt in
        let f = rw (← c) at e in
        absurd (true_false f)
      where
        true_false : true ≡ false → ⊥
        true_false q = cc

pub leaves-least : (s : Slab Kept) (x : Entry) (ys : List Entry) → IsUpperBound order.cmp-value.it x ys → Each (λ (o : OpenLeaf). x.bound.0 ≤ o.bound) (map (leaf_of s) ys)
leaves-least s x [] h = tt
leaves-least s x (y ∷ ys) h = (least x y h.0, leaves-least s x ys h.1)
