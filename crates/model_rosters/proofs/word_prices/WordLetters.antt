-- The letters of a word from a period on.
use Rattle.std.proofs.Common.{◌≡◌, ℕ, suc, arith, ◌+◌, List, [], ◌∷◌, ◌++◌, Option, Some, length, length-append, refl, sym, ◌∙◌, append_assoc}
use Rattle.std.specs.Prelude.{slice_get}
use Rattle.model_rosters.specs.word_prices.Prices.{letter_of}

-- the word has these letters from period i on
abbrev pub Has : List ℕ → ℕ → List ℕ → Type 0
Has w i [] = Unit {0}
Has w i (x ∷ xs) = (letter_of w i ≡ Some x) × Has w (i + 1) xs

pub Has-append : (w : List ℕ) (xs ys : List ℕ) (i : ℕ) → Has w i xs → Has w (i + length xs) ys → Has w i (xs ++ ys)
Has-append w [] ys i h k = let e : i + 0 ≡ i = omega arith in rw (← e) k
Has-append w (x ∷ xs) ys i h k =
    let e : i + length (x ∷ xs) ≡ i + 1 + length xs = omega arith in
    (h.0, Has-append w xs ys (i + 1) h.1 (rw (← e) k))

pub Has-front : (w : List ℕ) (xs ys : List ℕ) (i : ℕ) → Has w i (xs ++ ys) → Has w i xs
Has-front w [] ys i h = tt
Has-front w (x ∷ xs) ys i h = (h.0, Has-front w xs ys (i + 1) h.1)

pub Has-back : (w : List ℕ) (xs ys : List ℕ) (i : ℕ) → Has w i (xs ++ ys) → Has w (i + length xs) ys
Has-back w [] ys i h = let e : i + 0 ≡ i = omega arith in rw e h
Has-back w (x ∷ xs) ys i h =
    let e : i + length (x ∷ xs) ≡ i + 1 + length xs = omega arith in
    rw e (Has-back w xs ys (i + 1) h.1)

-- the first letter behind a front
pub at_front : (front rest : List ℕ) (y : ℕ) → slice_get (front ++ y ∷ rest) (length front) ≡ Some y
at_front [] rest y = refl
at_front (x ∷ front) rest y = at_front front rest y

-- a word that has as many letters behind a front as there are is what stands behind the front
pub Has-whole : (xs ys front : List ℕ) → length xs ≡ length ys → Has (front ++ ys) (suc (length front)) xs → xs ≡ ys
Has-whole [] [] front e h = refl
Has-whole [] (y ∷ ys) front e h = absurd (omega arith)
Has-whole (x ∷ xs) [] front e h = absurd (omega arith)
Has-whole (x ∷ xs) (y ∷ ys) front e h =
    let first : ◌≡◌ {A = Option ℕ} (Some y) (Some x) = sym (at_front front ys y) ∙ h.0 in
    let same : ◌≡◌ {A = ℕ} x y = cc in
    let one : suc (length front) + 1 ≡ suc (length (front ++ y ∷ [])) = simp length-append (omega arith) in
    let more : Has ((front ++ y ∷ []) ++ ys) (suc (length (front ++ y ∷ []))) xs = rw (← one, append_assoc) h.1 in
    let rest : xs ≡ ys = Has-whole xs ys (front ++ y ∷ []) (omega arith) more in
    rw (same, rest) refl

pub Has-self : (ys front : List ℕ) → Has (front ++ ys) (suc (length front)) ys
Has-self [] front = tt
Has-self (y ∷ ys) front =
    let one : suc (length front) + 1 ≡ suc (length (front ++ y ∷ [])) = simp length-append (omega arith) in
    let more : Has (front ++ y ∷ ys) (suc (length (front ++ y ∷ []))) ys = rw append_assoc at (Has-self ys (front ++ y ∷ [])) in
    (at_front front ys y, rw one more)
