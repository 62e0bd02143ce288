-- Lists of which each item meets a demand, lists with one more item, and tests of numbers.
use Rattle.std.proofs.Common.{◌≡◌, ℕ, zero, suc, ◌<◌, ◌≤◌, Bool, true, false, not, ltb, leb, eqb, List, [], ◌∷◌, ◌++◌, length, Some, refl, sym, ap, ◌∙◌, arith, inl, inr, ◌⊎◌, cond, Option, None}
use Rattle.std.specs.Prelude.{slice_get, ◌≢◌, is_some}
use Rattle.std.specs.List.{list_any, list_all}
use Rattle.std.proofs.lemmas.Bool.{and_from, and_parts, or_parts, cases_lt, lt-ltb, le-leb}
use Rattle.std.proofs.lemmas.Bool.Decides.{eqb_tells}
use Rattle.std.proofs.lemmas.Option.{slice_get_within}

-- ---- each item

pub all_append : {X : Type 0} (p : X → Bool) (xs ys : List X) → list_all p xs ≡ true → list_all p ys ≡ true → list_all p (xs ++ ys) ≡ true
all_append p [] ys h k = k
all_append p (x ∷ xs) ys h k = let t = and_parts (p x) (list_all p xs) h in and_from _ _ t.0 (all_append p xs ys t.1 k)

module _ {X : Type 0} (p q : X → Bool) (more : (x : X) → p x ≡ true → q x ≡ true) where
  pub all_weaker : (xs : List X) → list_all p xs ≡ true → list_all q xs ≡ true
  all_weaker [] h = refl
  all_weaker (x ∷ xs) h = let t = and_parts (p x) (list_all p xs) h in and_from _ _ (more x t.0) (all_weaker xs t.1)

-- a test that no item passes
pub none_passes : {X : Type 0} (p : X → Bool) (xs : List X) → list_any p xs ≡ false → (k : ℕ) (a : X) → slice_get xs k ≡ Some a → p a ≡ false
none_passes p [] h k a e = absurd cc
none_passes p (x ∷ xs) h zero a e = let same : x ≡ a = cc in ap p (sym same) ∙ (or_parts (p x) (list_any p xs) h).0
none_passes p (x ∷ xs) h (suc k) a e = none_passes p xs ((or_parts (p x) (list_any p xs) h).1) k a e

-- ---- one more item

pub last_or_before : {X : Type 0} (xs : List X) (y z : X) (k : ℕ) → slice_get (xs ++ y ∷ []) k ≡ Some z → (slice_get xs k ≡ Some z) ⊎ ((k ≡ length xs) × (y ≡ z))
last_or_before [] y z zero e = inr (refl, cc)
last_or_before [] y z (suc k) e = absurd cc
last_or_before (x ∷ xs) y z zero e = inl e
last_or_before (x ∷ xs) y z (suc k) e = elim (last_or_before xs y z k e) [
  | inl h ↦ inl h
  | inr h ↦ inr (ap suc h.0, h.1)
]

-- no two items have one key
abbrev pub Apart : {X Y : Type 0} → (X → Y) → List X → Type 0
Apart {X} f xs = (i j : ℕ) (a b : X) → i < j → slice_get xs i ≡ Some a → slice_get xs j ≡ Some b → f a ≢ f b

pub apart_more : {X Y : Type 0} (f : X → Y) (xs : List X) (y : X) → Apart f xs → ((k : ℕ) (a : X) → slice_get xs k ≡ Some a → f a ≢ f y) → Apart f (xs ++ y ∷ [])
apart_more f xs y old new i j a b lt ei ej same =
    elim (last_or_before xs y a i ei) [
      | inl hi ↦ elim (last_or_before xs y b j ej) [
        | inl hj ↦ old i j a b lt hi hj same
        | inr hj ↦ new i a hi (same ∙ ap f (sym hj.1))
      ]
      | inr hi ↦ elim (last_or_before xs y b j ej) [
        | inl hj ↦ absurd (omega (arith, slice_get_within xs j b hj, hi.0))
        | inr hj ↦ absurd (omega (arith, hi.0, hj.0))
      ]
    ]

-- ---- tests

pub fewer : (n m : ℕ) → leb m n ≡ false → n < m
fewer n m h = elim (cases_lt n m) [
  | inl lt ↦ lt
  | inr ge ↦ let yes : leb m n ≡ true = le-leb m n ge in absurd cc
]

pub at_least : (a b : ℕ) → ltb a b ≡ false → b ≤ a
at_least a b h = elim (cases_lt a b) [
  | inl lt ↦ let yes : ltb a b ≡ true = lt-ltb a b lt in absurd cc
  | inr ge ↦ ge
]

pub not_false : (t : Bool) → not t ≡ false → t ≡ true
not_false true e = refl
not_false false e = absurd cc

pub same_number : (a b : ℕ) → eqb a b ≡ true → a ≡ b
same_number a b h = elim (eqb_tells a b) [
  | inl p ↦ p.1
  | inr p ↦ let no = p.0 in absurd cc
]

abbrev pub one_if : Bool → ℕ
one_if t = cond t 1 0

abbrev pub has : {A : Type 0} → Option A → ℕ
has o = one_if (is_some o)

pub none_there : {A : Type 0} (o : Option A) → is_some o ≡ false → has o ≡ 0
none_there None e = refl
none_there (Some x) e = absurd cc
