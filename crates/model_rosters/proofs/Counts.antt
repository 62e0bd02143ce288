-- How many items of a list pass a test, against the list's length and against another test.
use Rattle.std.proofs.Common.{◌≡◌, ℕ, zero, suc, ◌+◌, ◌<◌, ◌≤◌, Bool, true, false, cond, List, [], ◌∷◌, length, get_or, refl, ap, arith, count_by}
use Rattle.std.proofs.lemmas.List.Sums.{count_by-le-length, sum_by-cons}

-- the first item, and the rest
count_by-cons : {X : Type 0} (p : X → Bool) (x : X) (xs : List X) → count_by p (x ∷ xs) ≡ cond (p x) 1 0 + count_by p xs
count_by-cons p x xs = sum_by-cons (λ y. cond (p y) 1 0) x xs

abbrev one : Bool → ℕ
one b = cond b 1 0

cond_yes : (b : Bool) → b ≡ true → ◌≡◌ {A = ℕ} (cond b 1 0) 1
cond_yes b e = ap one e

cond_no : (b : Bool) → b ≡ false → ◌≡◌ {A = ℕ} (cond b 1 0) 0
cond_no b e = ap one e

cond_le : (a b : Bool) → (a ≡ true → b ≡ true) → cond a 1 0 ≤ cond b 1 0
cond_le true b h = omega (arith, cond_yes b (h refl))
cond_le false b h = omega arith

pub cond_small : (b : Bool) → cond b 1 0 ≤ 1
cond_small true = omega arith
cond_small false = omega arith

-- an item that fails is not counted
pub count_by-lt-length : {X : Type 0} (p : X → Bool) (xs : List X) (i : ℕ) (d : X) → i < length xs → p (get_or xs i d) ≡ false → count_by p xs < length xs
count_by-lt-length p [] i d within fails = absurd (omega arith)
count_by-lt-length p (x ∷ xs) zero d within fails =
    omega (arith, count_by-cons p x xs, cond_no (p x) fails, count_by-le-length p xs)
count_by-lt-length p (x ∷ xs) (suc i) d within fails =
    omega (arith, count_by-cons p x xs, cond_small (p x), count_by-lt-length p xs i d (omega arith) fails)

module _ {X : Type 0} (p q : X → Bool) where
  -- what passes the first test passes the second
  abbrev pub Follows : List X → X → Type 0
  Follows xs d = (k : ℕ) → k < length xs → p (get_or xs k d) ≡ true → q (get_or xs k d) ≡ true

  follows_tail : (x : X) (xs : List X) (d : X) → Follows (x ∷ xs) d → Follows xs d
  follows_tail x xs d h = λ k lt. h (suc k) (omega arith)

  pub count_by-le-count_by : (xs : List X) (d : X) → Follows xs d → count_by p xs ≤ count_by q xs
  count_by-le-count_by [] d h = omega arith
  count_by-le-count_by (x ∷ xs) d h =
      omega (arith, count_by-cons p x xs, count_by-cons q x xs, cond_le (p x) (q x) (h 0 (omega arith)), count_by-le-count_by xs d (follows_tail x xs d h))

  -- and one item more
  pub count_by-lt-count_by : (xs : List X) (d : X) (i : ℕ) → Follows xs d → i < length xs → p (get_or xs i d) ≡ false → q (get_or xs i d) ≡ true
      → count_by p xs < count_by q xs
  count_by-lt-count_by [] d i h within fails passes = absurd (omega arith)
  count_by-lt-count_by (x ∷ xs) d zero h within fails passes =
      omega (arith, count_by-cons p x xs, count_by-cons q x xs, cond_no (p x) fails, cond_yes (q x) passes, count_by-le-count_by xs d (follows_tail x xs d h))
  count_by-lt-count_by (x ∷ xs) d (suc i) h within fails passes =
      omega (arith, count_by-cons p x xs, count_by-cons q x xs, cond_le (p x) (q x) (h 0 (omega arith)), count_by-lt-count_by xs d i (follows_tail x xs d h) (omega arith) fails passes)
