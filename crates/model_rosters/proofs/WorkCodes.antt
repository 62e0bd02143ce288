-- Different positions of items that pass a test are no more than the items that pass it.
use Rattle.std.proofs.Common.{◌≡◌, ◌≢◌, ℕ, zero, suc, ◌+◌, ◌≤◌, Bool, true, false, cond, List, [], ◌∷◌, Some, length, refl, sym, subst, ap, arith, count_by}
use Rattle.std.specs.Prelude.{slice_get}
use Rattle.std.proofs.lemmas.Bool.{false≢true}
use Rattle.std.proofs.lemmas.List.Sums.{sum_by-cons}
use Rattle.std.proofs.lemmas.Option.{same_Some, none-some}
use Rattle.model_rosters.specs.Folds.{Each}

-- all different
abbrev pub AreApart : List ℕ → Type 0
AreApart [] = Unit {0}
AreApart (k ∷ ks) = Each (λ (j : ℕ). j ≢ k) ks × AreApart ks

-- the positions past the first item, counted from there
lower : List ℕ → List ℕ
lower [] = []
lower (zero ∷ ks) = lower ks
lower (suc k ∷ ks) = k ∷ lower ks

abbrev firsts : List ℕ → ℕ
firsts [] = 0
firsts (zero ∷ ks) = 1 + firsts ks
firsts (suc k ∷ ks) = firsts ks

length-lower : (ks : List ℕ) → length ks ≡ firsts ks + length (lower ks)
unfolding lower
length-lower [] = refl
length-lower (zero ∷ ks) = omega (arith, length-lower ks)
length-lower (suc k ∷ ks) = omega (arith, length-lower ks)

no_firsts : (ks : List ℕ) → Each (λ (j : ℕ). j ≢ 0) ks → firsts ks ≡ 0
no_firsts [] h = refl
no_firsts (zero ∷ ks) h = absurd (h.0 refl)
no_firsts (suc k ∷ ks) h = no_firsts ks h.1

one_first : (ks : List ℕ) → AreApart ks → firsts ks ≤ 1
one_first [] h = omega arith
one_first (zero ∷ ks) h = omega (arith, no_firsts ks h.0)
one_first (suc k ∷ ks) h = one_first ks h.1

lower_each : (k : ℕ) (ks : List ℕ) → Each (λ (j : ℕ). j ≢ suc k) ks → Each (λ (j : ℕ). j ≢ k) (lower ks)
unfolding lower
lower_each k [] h = tt
lower_each k (zero ∷ ks) h = lower_each k ks h.1
lower_each k (suc j ∷ ks) h = (λ e. h.0 (ap (λ (x : ℕ). suc x) e), lower_each k ks h.1)

lower_apart : (ks : List ℕ) → AreApart ks → AreApart (lower ks)
unfolding lower
lower_apart [] h = tt
lower_apart (zero ∷ ks) h = lower_apart ks h.1
lower_apart (suc k ∷ ks) h = (lower_each k ks h.0, lower_apart ks h.1)

module _ {X : Type 0} (p : X → Bool) where
  -- the item at the position passes
  abbrev pub Passes : List X → ℕ → Type 0
  Passes xs k = (x : X) × (slice_get xs k ≡ Some x) × (p x ≡ true)

  lower_passes : (x : X) (xs : List X) (ks : List ℕ) → Each (Passes (x ∷ xs)) ks → Each (Passes xs) (lower ks)
  unfolding lower
  lower_passes x xs [] h = tt
  lower_passes x xs (zero ∷ ks) h = lower_passes x xs ks h.1
  lower_passes x xs (suc k ∷ ks) h = (h.0, lower_passes x xs ks h.1)

  first_passes : (x : X) (xs : List X) (ks : List ℕ) → Each (Passes (x ∷ xs)) ks → 1 ≤ firsts ks → p x ≡ true
  first_passes x xs [] h some = absurd (omega arith)
  first_passes x xs (zero ∷ ks) h some =
      let P : X → Type 0 = λ (y : X). p y ≡ true in
      subst P (sym (same_Some x h.0.0 h.0.1)) h.0.2
  first_passes x xs (suc k ∷ ks) h some = first_passes x xs ks h.1 some

  first-le : (b : Bool) (n : ℕ) → n ≤ 1 → (1 ≤ n → b ≡ true) → n ≤ cond b 1 0
  first-le true n h k = omega arith
  first-le false zero h k = omega arith
  first-le false (suc n) h k = absurd (false≢true (k (omega arith)))

  pub positions-le : (xs : List X) (ks : List ℕ) → Each (Passes xs) ks → AreApart ks → length ks ≤ count_by p xs
  positions-le [] [] h apart = omega arith
  positions-le [] (k ∷ ks) h apart = absurd (none-some h.0.0 h.0.1)
  positions-le (x ∷ xs) ks h apart =
      omega (
        arith,
        sum_by-cons (λ (y : X). cond (p y) 1 0) x xs,
        length-lower ks,
        first-le (p x) (firsts ks) (one_first ks apart) (first_passes x xs ks h),
        positions-le xs (lower ks) (lower_passes x xs ks h) (lower_apart ks apart),
      )
