-- Sixteen counts raised at once, and the counts that a loop over them leaves.
use Rattle.std.proofs.Common.{◌≡◌, ℕ, zero, suc, ◌+◌, ◌%◌, ◌-◌, ◌^◌, ◌<◌, ◌≤◌, arith, List, [], ◌∷◌, map, length, get_or, replicate, Bool, true, false, eqb, cond, refl, sym, ap, subst, ◌∙◌, inl, inr, ◌⊎◌, w32}
use Rattle.std.proofs.lemmas.Simd.{length-zip2, get_or-zip2, length-chunk, get_or-chunk, tops_compared, length-sel_l, get_or-sel_l, get_or-replicate, get_or-put_chunk_at, get_or-put_chunk_below, get_or-put_chunk_above}
use Rattle.std.proofs.lemmas.Bool.{cases_lt}
use Rattle.std.proofs.lemmas.Grind.{same_number_lists}
use lib.Lanes.{zip2, sel_l, chunk, put_chunk, top}
use Rattle.check_lanes.specs.Counted.{counted, matched}

pub matched_few : (byte x : ℕ) → matched byte x ≤ 1
matched_few byte x = one (eqb x byte)
  where
    one : (t : Bool) → cond t 1 0 ≤ 1
    one true = omega arith
    one false = omega arith

fits : (a b : ℕ) → a < 2 ^ 32 - 1 → b ≤ 1 → (a + b) % 2 ^ 32 ≡ a + b
fits a b l m = omega arith

pub place : (at k : ℕ) → at ≤ k → at + (k - at) ≡ k
place at k l = omega arith

module _ (counts word : List ℕ) (byte at : ℕ) where
  abbrev pub letters : List ℕ
  letters = map (λ (x : ℕ). x) (chunk at 16 word)

  abbrev pub more : List ℕ
  more = sel_l (map (top 31) (zip2 (λ a b. cond (eqb a b) (2 ^ 32 - 1) 0) letters (replicate 16 byte))) (replicate 16 1) (replicate 16 0)

  abbrev pub sums : List ℕ
  sums = zip2 (λ a b. (a + b) % 2 ^ 32) (chunk at 16 counts) more

  length_map : {A B : Type 0} (f : A → B) (xs : List A) → length (map f xs) ≡ length xs
  length_map f [] = refl
  length_map f (x ∷ xs) = omega (arith, length_map f xs)

  get_same : (xs : List ℕ) (i d : ℕ) → get_or (map (λ (x : ℕ). x) xs) i d ≡ get_or xs i d
  get_same [] i d = refl
  get_same (x ∷ xs) zero d = refl
  get_same (x ∷ xs) (suc i) d = get_same xs i d

  module _ (same : length counts ≡ length word) (within : at + 16 ≤ length counts) where
    length-letters : length letters ≡ 16
    length-letters = length_map (λ (x : ℕ). x) (chunk at 16 word) ∙ length-chunk at 16 word (omega arith)

    length-tests : length (zip2 eqb letters (replicate 16 byte)) ≡ 16
    length-tests = length-zip2 eqb letters (replicate 16 byte) length-letters ∙ length-letters

    more_are : more ≡ sel_l (zip2 eqb letters (replicate 16 byte)) (replicate 16 1) (replicate 16 0)
    more_are = ap (λ ms. sel_l ms (replicate 16 1) (replicate 16 0)) (tops_compared w32 eqb letters (replicate 16 byte))

    length-more : length more ≡ 16
    length-more = ap length more_are ∙ length-sel_l (zip2 eqb letters (replicate 16 byte)) (replicate 16 1) (replicate 16 0) length-tests length-tests ∙ length-tests

    get-letter : (i : ℕ) → i < 16 → get_or letters i 0 ≡ get_or word (at + i) 0
    get-letter i l = get_same (chunk at 16 word) i 0 ∙ get_or-chunk at 16 word i 0 l

    get-more : (i : ℕ) → i < 16 → get_or more i 0 ≡ matched byte (get_or word (at + i) 0)
    get-more i l =
        let tests = zip2 eqb letters (replicate 16 byte) in
        let long = length-tests in
        let bytes : get_or (replicate 16 byte) i 0 ≡ byte = get_or-replicate 16 i byte 0 l in
        let one : ◌≡◌ {A = ℕ} (get_or (replicate 16 1) i 0) 1 = get_or-replicate 16 i 1 0 l in
        let none : ◌≡◌ {A = ℕ} (get_or (replicate 16 0) i 0) 0 = get_or-replicate 16 i 0 0 l in
        ap (λ (xs : List ℕ). get_or xs i 0) more_are
        ∙ get_or-sel_l tests (replicate 16 1) (replicate 16 0) i 0 (omega (arith, length-tests)) l l
        ∙ ap (λ t. cond t (get_or (replicate 16 1) i 0) (get_or (replicate 16 0) i 0)) (get_or-zip2 eqb letters (replicate 16 byte) i 0 0 false (omega (arith, length-letters)) l)
        ∙ ap (λ (x : ℕ). cond (eqb x (get_or (replicate 16 byte) i 0)) (get_or (replicate 16 1) i 0) (get_or (replicate 16 0) i 0)) (get-letter i l)
        ∙ ap (λ (x : ℕ). cond (eqb (get_or word (at + i) 0) x) (get_or (replicate 16 1) i 0) (get_or (replicate 16 0) i 0)) bytes
        ∙ ap (λ (x : ℕ). cond (eqb (get_or word (at + i) 0) byte) x (get_or (replicate 16 0) i 0)) one
        ∙ ap (λ (x : ℕ). cond (eqb (get_or word (at + i) 0) byte) 1 x) none

    length-sums : length sums ≡ 16
    length-sums = length-zip2 (λ a b. (a + b) % 2 ^ 32) (chunk at 16 counts) more (length-chunk at 16 counts within ∙ sym length-more) ∙ length-chunk at 16 counts within

    get-sum : (i : ℕ) → i < 16 → get_or counts (at + i) 0 < 2 ^ 32 - 1 → get_or sums i 0 ≡ get_or counts (at + i) 0 + matched byte (get_or word (at + i) 0)
    get-sum i l room =
        get_or-zip2 (λ a b. (a + b) % 2 ^ 32) (chunk at 16 counts) more i 0 0 0 (omega (arith, length-chunk at 16 counts within)) (omega (arith, length-more))
        ∙ ap (λ (x : ℕ). (x + get_or more i 0) % 2 ^ 32) (get_or-chunk at 16 counts i 0 l)
        ∙ ap (λ (x : ℕ). (get_or counts (at + i) 0 + x) % 2 ^ 32) (get-more i l)
        ∙ fits (get_or counts (at + i) 0) (matched byte (get_or word (at + i) 0)) room (matched_few byte (get_or word (at + i) 0))

    -- the counts after one step over lanes
    pub get-lane : (k : ℕ) → at ≤ k → k < at + 16 → get_or counts k 0 < 2 ^ 32 - 1 → get_or (put_chunk at counts sums) k 0 ≡ get_or counts k 0 + matched byte (get_or word k 0)
    get-lane k lo hi room = subst Is (place at k lo) (at_place (k - at) (omega arith) (omega (arith, ap (λ (j : ℕ). get_or counts j 0) (place at k lo))))
      where
        Is : ℕ → Type 0
        Is j = get_or (put_chunk at counts sums) j 0 ≡ get_or counts j 0 + matched byte (get_or word j 0)

        at_place : (i : ℕ) → i < 16 → get_or counts (at + i) 0 < 2 ^ 32 - 1 → Is (at + i)
        at_place i l few = get_or-put_chunk_at at counts sums i 0 (omega (arith, length-sums)) (omega (arith, length-sums)) ∙ get-sum i l few

    pub get-other : (k : ℕ) → (k < at) ⊎ (at + 16 ≤ k) → get_or (put_chunk at counts sums) k 0 ≡ get_or counts k 0
    get-other k (inl l) = get_or-put_chunk_below at counts sums k 0 l
    get-other k (inr l) = get_or-put_chunk_above at counts sums k 0 (omega (arith, length-sums))

-- the places below at are counted, and the others are as they were
pub record AreCountedTo (old word : List ℕ) (byte at : ℕ) (new : List ℕ) : Type 0 where
  pub within : at ≤ length old
  pub long : length new ≡ length old
  pub done : (k : ℕ) → k < at → get_or new k 0 ≡ get_or old k 0 + matched byte (get_or word k 0)
  pub rest : (k : ℕ) → at ≤ k → get_or new k 0 ≡ get_or old k 0

module _ (old word : List ℕ) (byte : ℕ) where
  pub none_counted : AreCountedTo old word byte 0 old
  none_counted = record { within = omega arith; long = refl; done = λ k l. absurd (omega arith); rest = λ k l. refl }

  pub more_counted : (at next : ℕ) (now new : List ℕ) → AreCountedTo old word byte at now → at ≤ next → next ≤ length old → length new ≡ length now
      → ((k : ℕ) → at ≤ k → k < next → get_or new k 0 ≡ get_or now k 0 + matched byte (get_or word k 0))
      → ((k : ℕ) → (k < at) ⊎ (next ≤ k) → get_or new k 0 ≡ get_or now k 0)
      → AreCountedTo old word byte next new
  more_counted at next now new h le within long lanes others = record {
    within = within;
    long = long ∙ h.long;
    done = λ k l. pick k l (cases_lt k at);
    rest = λ k l. others k (inr l) ∙ h.rest k (omega arith);
  }
    where
      pick : (k : ℕ) → k < next → (k < at) ⊎ (at ≤ k) → get_or new k 0 ≡ get_or old k 0 + matched byte (get_or word k 0)
      pick k l (inl s) = others k (inl s) ∙ h.done k s
      pick k l (inr s) = lanes k s l ∙ ap (λ (x : ℕ). x + matched byte (get_or word k 0)) (h.rest k s)

  pub all_counted : (at : ℕ) (new : List ℕ) → length old ≡ length word → AreCountedTo old word byte at new → length old ≤ at → new ≡ counted old word byte
  all_counted at new same h le =
      same_number_lists new (counted old word byte) (h.long ∙ sym (length-zip2 (λ n letter. n + matched byte letter) old word same))
      (λ k l. h.done k (omega (arith, h.long)) ∙ sym (get_or-zip2 (λ n letter. n + matched byte letter) old word k 0 0 0 (omega (arith, h.long)) (omega (arith, h.long))))
