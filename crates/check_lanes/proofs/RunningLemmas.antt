-- Steps over eight lanes of sums, and the least of all lanes.
use Rattle.std.proofs.Common.{◌≡◌, ℕ, zero, suc, ℤ, pos, ◌+◌, ◌%◌, ◌-◌, ◌^◌, ◌<◌, ◌≤◌, ◌+ℤ◌, ◌≤ℤ◌, ◌<ℤ◌, arith, List, [], ◌∷◌, map, length, get_or, replicate, Bool, true, false, cond, refl, sym, ap, subst, ◌∙◌, SFits, to_z, of_z, unsigned_abs, inl, inr, ◌⊎◌}
use Rattle.std.specs.Int.{w64}
use Rattle.std.proofs.lemmas.Int.{ints, to_z-of_z, wrapping_add_is, int_wrap_fits}
use Rattle.std.proofs.lemmas.Simd.{length-zip2, get_or-zip2, length-chunk, get_or-chunk, tops_compared, length-sel_l, get_or-sel_l, get_or-replicate}
use Rattle.std.proofs.lemmas.Bool.{cases_lt}
use lib.Lanes.{zip2, sel_l, chunk, top}
use lib.Signed.{lt_z}
use Rattle.check_lanes.specs.LeastSum.{sum_at, AreSmall, IsLeastSum}
use Rattle.check_lanes.specs.Running.{IsAhead, IsLaneLeast, AreRunning}

-- ---- numbers and their bits
abbrev pub bits : List ℤ → List ℕ
bits xs = map (of_z w64) xs

abbrev pub numbers : List ℕ → List ℤ
numbers ns = map (to_z w64) ns

length_bits : (xs : List ℤ) → length (bits xs) ≡ length xs
length_bits [] = refl
length_bits (x ∷ xs) = ap suc (length_bits xs)

pub length_numbers : (ns : List ℕ) → length (numbers ns) ≡ length ns
length_numbers [] = refl
length_numbers (n ∷ ns) = ap suc (length_numbers ns)

get_bits : (xs : List ℤ) (i : ℕ) → i < length xs → get_or (bits xs) i 0 ≡ of_z w64 (get_or xs i (pos 0))
get_bits [] i l = absurd (omega arith)
get_bits (x ∷ xs) zero l = refl
get_bits (x ∷ xs) (suc i) l = get_bits xs i (omega arith)

get_numbers : (ns : List ℕ) (i : ℕ) → i < length ns → get_or (numbers ns) i (pos 0) ≡ to_z w64 (get_or ns i 0)
get_numbers [] i l = absurd (omega arith)
get_numbers (n ∷ ns) zero l = refl
get_numbers (n ∷ ns) (suc i) l = get_numbers ns i (omega arith)

small_fits : (a : ℤ) → unsigned_abs a ≤ 2 ^ 61 → SFits w64 a
small_fits a l = omega (arith, ints)

small_sum_fits : (a b : ℤ) → unsigned_abs a ≤ 2 ^ 61 → unsigned_abs b ≤ 2 ^ 61 → SFits w64 (a +ℤ b)
small_sum_fits a b l m = omega (arith, ints)

pub sum_fits : (a : ℤ) → unsigned_abs a ≤ 2 ^ 62 → SFits w64 a
sum_fits a l = omega (arith, ints)

pub small_sum_size : (a b : ℤ) → unsigned_abs a ≤ 2 ^ 61 → unsigned_abs b ≤ 2 ^ 61 → unsigned_abs (a +ℤ b) ≤ 2 ^ 62
small_sum_size a b l m = omega (arith, ints)

small_sum : (a b : ℤ) → unsigned_abs a ≤ 2 ^ 61 → unsigned_abs b ≤ 2 ^ 61 → to_z w64 ((of_z w64 a + of_z w64 b) % 2 ^ 64) ≡ a +ℤ b
small_sum a b l m =
    wrapping_add_is w64 a b (small_fits a l) (small_fits b m)
    ∙ int_wrap_fits w64 (a +ℤ b) (small_sum_fits a b l m)

abbrev pub add_bits : ℕ → ℕ → ℕ
add_bits a b = (a + b) % 2 ^ 64

abbrev pub less_bits : ℕ → ℕ → Bool
less_bits a b = lt_z (to_z w64 a) (to_z w64 b)

-- ---- the sums of one step
module _ (x y : List ℤ) (at : ℕ) where
  abbrev pub lane_bits : List ℕ
  lane_bits = zip2 add_bits (bits (chunk at 8 x)) (bits (chunk at 8 y))

  module _ (in_x : at + 8 ≤ length x) (in_y : at + 8 ≤ length y) where
    length-x : length (bits (chunk at 8 x)) ≡ 8
    length-x = length_bits (chunk at 8 x) ∙ length-chunk at 8 x in_x

    length-y : length (bits (chunk at 8 y)) ≡ 8
    length-y = length_bits (chunk at 8 y) ∙ length-chunk at 8 y in_y

    length-lanes : length lane_bits ≡ 8
    length-lanes = length-zip2 add_bits (bits (chunk at 8 x)) (bits (chunk at 8 y)) (length-x ∙ sym length-y) ∙ length-x

    pub lanes : length (numbers lane_bits) ≡ 8
    lanes = length_numbers lane_bits ∙ length-lanes

    get-bit : (xs : List ℤ) → at + 8 ≤ length xs → (i : ℕ) → i < 8 → get_or (bits (chunk at 8 xs)) i 0 ≡ of_z w64 (get_or xs (at + i) (pos 0))
    get-bit xs le i l =
        get_bits (chunk at 8 xs) i (omega (arith, length-chunk at 8 xs le))
        ∙ ap (of_z w64) (get_or-chunk at 8 xs i (pos 0) l)

    pub lane_sum : AreSmall x → AreSmall y → (i : ℕ) → i < 8 → get_or (numbers lane_bits) i (pos 0) ≡ sum_at x y (at + i)
    lane_sum small_x small_y i l =
        get_numbers lane_bits i (omega (arith, length-lanes))
        ∙ ap (to_z w64) (get_or-zip2 add_bits (bits (chunk at 8 x)) (bits (chunk at 8 y)) i 0 0 0 (omega (arith, length-x)) (omega (arith, length-y))
        ∙ ap (λ (a : ℕ). add_bits a (get_or (bits (chunk at 8 y)) i 0)) (get-bit x in_x i l)
        ∙ ap (λ (b : ℕ). add_bits (of_z w64 (get_or x (at + i) (pos 0))) b) (get-bit y in_y i l))
        ∙ small_sum (get_or x (at + i) (pos 0)) (get_or y (at + i) (pos 0)) (small_x (at + i) (pos 0) (omega arith)) (small_y (at + i) (pos 0) (omega arith))

-- ---- what a lane takes of two vectors
abbrev pub chosen : List ℤ → List ℤ → List ℕ → List ℕ → List ℕ
chosen new old xs ys = sel_l (map (top 63) (zip2 (λ a b. cond (less_bits a b) (2 ^ 64 - 1) 0) (bits new) (bits old))) xs ys

module _ (new old : List ℤ) (xs ys : List ℕ) (long_new : length new ≡ 8) (long_old : length old ≡ 8) (long_x : length xs ≡ 8) (long_y : length ys ≡ 8) where
  chosen_are : chosen new old xs ys ≡ sel_l (zip2 less_bits (bits new) (bits old)) xs ys
  chosen_are = ap (λ ms. sel_l ms xs ys) (tops_compared w64 less_bits (bits new) (bits old))

  length-tests : length (zip2 less_bits (bits new) (bits old)) ≡ 8
  length-tests = length-zip2 less_bits (bits new) (bits old) (length_bits new ∙ long_new ∙ sym (length_bits old ∙ long_old)) ∙ length_bits new ∙ long_new

  length-chosen : length (chosen new old xs ys) ≡ 8
  length-chosen = ap length chosen_are ∙ length-sel_l (zip2 less_bits (bits new) (bits old)) xs ys (length-tests ∙ sym long_x) (length-tests ∙ sym long_y) ∙ length-tests

  get-chosen : (i : ℕ) → i < 8 → SFits w64 (get_or new i (pos 0)) → SFits w64 (get_or old i (pos 0))
      → get_or (chosen new old xs ys) i 0 ≡ cond (lt_z (get_or new i (pos 0)) (get_or old i (pos 0))) (get_or xs i 0) (get_or ys i 0)
  get-chosen i l fit_new fit_old =
      let long-new : length (bits new) ≡ 8 = length_bits new ∙ long_new in
      let long-old : length (bits old) ≡ 8 = length_bits old ∙ long_old in
      ap (λ (zs : List ℕ). get_or zs i 0) chosen_are
      ∙ get_or-sel_l (zip2 less_bits (bits new) (bits old)) xs ys i 0 (omega (arith, length-tests)) (omega arith) (omega arith)
      ∙ ap (λ t. cond t (get_or xs i 0) (get_or ys i 0)) (get_or-zip2 less_bits (bits new) (bits old) i 0 0 false (omega arith) (omega arith)
      ∙ ap (λ (a : ℕ). less_bits a (get_or (bits old) i 0)) (get_bits new i (omega arith))
      ∙ ap (λ (b : ℕ). less_bits (of_z w64 (get_or new i (pos 0))) b) (get_bits old i (omega arith))
      ∙ ap (λ (a : ℤ). lt_z a (to_z w64 (of_z w64 (get_or old i (pos 0))))) (to_z-of_z w64 (get_or new i (pos 0)) fit_new)
      ∙ ap (λ (b : ℤ). lt_z (get_or new i (pos 0)) b) (to_z-of_z w64 (get_or old i (pos 0)) fit_old))

-- ---- one step more
lane_first : (x y : List ℤ) (i : ℕ) (v : ℤ) → i < 8 → v ≡ sum_at x y i → IsLaneLeast x y 8 i v i
lane_first x y i v l e = record {
  within = l;
  reached = e;
  ahead = λ k lt same. let z : i ≡ k = omega arith in
      subst (λ k. IsAhead v i (sum_at x y k) k) z
      (record { most = subst (λ u. u ≤ℤ sum_at x y i) (sym e) (omega (arith, ints)); less = λ b. absurd (omega arith) });
}

module _ (x y : List ℤ) (n i : ℕ) (l : i < 8) (whole : n % 8 ≡ 0) where
  pub lane_next : (v : ℤ) (j : ℕ) (w : ℤ) → IsLaneLeast x y n i v j → w ≡ sum_at x y (n + i) → (t : Bool) → lt_z w v ≡ t
      → IsLaneLeast x y (n + 8) i (cond t w v) (cond t (n + i) j)
  lane_next v j w h e true less = record {
    within = omega arith;
    reached = e;
    ahead = λ k lt same. pick k lt same (cases_lt k n);
  }
    where
      below : w <ℤ v
      below = omega (arith, ints)

      pick : (k : ℕ) → k < n + 8 → k % 8 ≡ i → (k < n) ⊎ (n ≤ k) → IsAhead w (n + i) (sum_at x y k) k
      pick k lt same (inl s) = let a = (h.ahead k s same).most in record { most = omega (arith, ints); less = λ b. omega (arith, ints) }
      pick k lt same (inr g) = let z : n + i ≡ k = omega arith in subst (λ k. IsAhead w (n + i) (sum_at x y k) k) z (record { most = subst (λ u. u ≤ℤ sum_at x y (n + i)) (sym e) (omega (arith, ints)); less = λ b. absurd (omega arith) })
  lane_next v j w h e false less = record {
    within = omega (arith, h.within);
    reached = h.reached;
    ahead = λ k lt same. pick k lt same (cases_lt k n);
  }
    where
      above : v ≤ℤ w
      above = omega (arith, ints)

      pick : (k : ℕ) → k < n + 8 → k % 8 ≡ i → (k < n) ⊎ (n ≤ k) → IsAhead v j (sum_at x y k) k
      pick k lt same (inl s) = h.ahead k s same
      pick k lt same (inr g) = let z : n + i ≡ k = omega arith in subst (λ k. IsAhead v j (sum_at x y k) k) z (record { most = subst (λ u. v ≤ℤ u) e above; less = λ b. absurd (omega (arith, h.within)) })

pub numbers_again : (xs : List ℤ) (i : ℕ) → i < length xs → SFits w64 (get_or xs i (pos 0)) → get_or (numbers (bits xs)) i (pos 0) ≡ get_or xs i (pos 0)
numbers_again xs i l fit =
    get_numbers (bits xs) i (omega (arith, length_bits xs)) ∙ ap (to_z w64) (get_bits xs i l) ∙ to_z-of_z w64 (get_or xs i (pos 0)) fit

either_number : (a b : ℤ) → SFits w64 a → SFits w64 b → (t : Bool) → to_z w64 (cond t (of_z w64 a) (of_z w64 b)) ≡ cond t a b
either_number a b fit_a fit_b true = to_z-of_z w64 a fit_a
either_number a b fit_a fit_b false = to_z-of_z w64 b fit_b

either_small : (a b : ℤ) → unsigned_abs a ≤ 2 ^ 62 → unsigned_abs b ≤ 2 ^ 62 → (t : Bool) → unsigned_abs (cond t a b) ≤ 2 ^ 62
either_small a b l m true = l
either_small a b l m false = m

either_place : (n s i : ℕ) (t : Bool) → cond t n s + i ≡ cond t (n + i) (s + i)
either_place n s i true = refl
either_place n s i false = refl

module _ (x y : List ℤ) (n : ℕ) (in_x : n + 8 ≤ length x) (in_y : n + 8 ≤ length y) (small_x : AreSmall x) (small_y : AreSmall y) where
  pub new_small : (new : List ℤ) → ((i : ℕ) → i < 8 → get_or new i (pos 0) ≡ sum_at x y (n + i)) → (i : ℕ) → i < 8 → unsigned_abs (get_or new i (pos 0)) ≤ 2 ^ 62
  new_small new are i l =
      subst (λ z. unsigned_abs z ≤ 2 ^ 62) (sym (are i l))
      (small_sum_size (get_or x (n + i) (pos 0)) (get_or y (n + i) (pos 0)) (small_x (n + i) (pos 0) (omega arith)) (small_y (n + i) (pos 0) (omega arith)))

  module _ (new : List ℤ) (long : length new ≡ 8) (are : (i : ℕ) → i < 8 → get_or new i (pos 0) ≡ sum_at x y (n + i)) where
    pub first_running : n ≡ 0 → AreRunning x y 8 (numbers (bits new)) (replicate 8 0)
    first_running none = record {
      sum_lanes = length_numbers (bits new) ∙ length_bits new ∙ long;
      start_lanes = refl;
      small = λ i l. subst (λ z. unsigned_abs z ≤ 2 ^ 62) (sym (again i l)) (new_small new are i l);
      least = λ i l. lane i l;
    }
      where
        again : (i : ℕ) → i < 8 → get_or (numbers (bits new)) i (pos 0) ≡ get_or new i (pos 0)
        again i l = numbers_again new i (omega arith) (sum_fits (get_or new i (pos 0)) (new_small new are i l))

        here : (i : ℕ) → i < 8 → get_or new i (pos 0) ≡ sum_at x y i
        here i l = let e : n + i ≡ i = omega arith in are i l ∙ ap (λ (m : ℕ). sum_at x y m) e

        lane : (i : ℕ) → i < 8 → IsLaneLeast x y 8 i (get_or (numbers (bits new)) i (pos 0)) (get_or (replicate 8 0) i 0 + i)
        lane i l =
            let zeros : ◌≡◌ {A = ℕ} (get_or (replicate 8 0) i 0) 0 = get_or-replicate 8 i 0 0 l in
            let start : get_or (replicate 8 0) i 0 + i ≡ i = omega arith in
            subst (λ z. IsLaneLeast x y 8 i z (get_or (replicate 8 0) i 0 + i)) (sym (again i l))
            (subst (λ j. IsLaneLeast x y 8 i (get_or new i (pos 0)) j) (sym start) (lane_first x y i (get_or new i (pos 0)) l (here i l)))

    pub next_running : (old : List ℤ) (starts : List ℕ) → n % 8 ≡ 0 → AreRunning x y n old starts
        → AreRunning x y (n + 8) (numbers (chosen new old (bits new) (bits old))) (chosen new old (replicate 8 n) starts)
    next_running old starts whole h = record {
      sum_lanes = length_numbers (chosen new old (bits new) (bits old)) ∙ long_values;
      start_lanes = length-chosen new old (replicate 8 n) starts long h.sum_lanes refl h.start_lanes;
      small = λ i l. subst (λ z. unsigned_abs z ≤ 2 ^ 62) (sym (value i l)) (either_small (get_or new i (pos 0)) (get_or old i (pos 0)) (new_small new are i l) (h.small i l) (less i));
      least = λ i l. subst (λ z. IsLaneLeast x y (n + 8) i z (get_or (chosen new old (replicate 8 n) starts) i 0 + i)) (sym (value i l))
          (subst (λ j. IsLaneLeast x y (n + 8) i (cond (less i) (get_or new i (pos 0)) (get_or old i (pos 0))) j) (sym (start i l))
          (lane_next x y n i l whole (get_or old i (pos 0)) (get_or starts i 0 + i) (get_or new i (pos 0)) (h.least i l) (are i l) (less i) refl));
    }
      where
        less : ℕ → Bool
        less i = lt_z (get_or new i (pos 0)) (get_or old i (pos 0))

        long_new : length (bits new) ≡ 8
        long_new = length_bits new ∙ long

        long_old : length (bits old) ≡ 8
        long_old = length_bits old ∙ h.sum_lanes

        long_values : length (chosen new old (bits new) (bits old)) ≡ 8
        long_values = length-chosen new old (bits new) (bits old) long h.sum_lanes (length_bits new ∙ long) (length_bits old ∙ h.sum_lanes)

        fit_new : (i : ℕ) → i < 8 → SFits w64 (get_or new i (pos 0))
        fit_new i l = sum_fits (get_or new i (pos 0)) (new_small new are i l)

        fit_old : (i : ℕ) → i < 8 → SFits w64 (get_or old i (pos 0))
        fit_old i l = sum_fits (get_or old i (pos 0)) (h.small i l)

        value : (i : ℕ) → i < 8 → get_or (numbers (chosen new old (bits new) (bits old))) i (pos 0) ≡ cond (less i) (get_or new i (pos 0)) (get_or old i (pos 0))
        value i l =
            get_numbers (chosen new old (bits new) (bits old)) i (omega (arith, length-chosen new old (bits new) (bits old) long h.sum_lanes (length_bits new ∙ long) (length_bits old ∙ h.sum_lanes)))
            ∙ ap (to_z w64) (get-chosen new old (bits new) (bits old) long h.sum_lanes (length_bits new ∙ long) (length_bits old ∙ h.sum_lanes) i l (fit_new i l) (fit_old i l)
            ∙ ap (λ (a : ℕ). cond (less i) a (get_or (bits old) i 0)) (get_bits new i (omega arith))
            ∙ ap (λ (b : ℕ). cond (less i) (of_z w64 (get_or new i (pos 0))) b) (get_bits old i (omega (arith, h.sum_lanes))))
            ∙ either_number (get_or new i (pos 0)) (get_or old i (pos 0)) (fit_new i l) (fit_old i l) (less i)

        start : (i : ℕ) → i < 8 → get_or (chosen new old (replicate 8 n) starts) i 0 + i ≡ cond (less i) (n + i) (get_or starts i 0 + i)
        start i l =
            ap (λ (s : ℕ). s + i) (get-chosen new old (replicate 8 n) starts long h.sum_lanes refl h.start_lanes i l (fit_new i l) (fit_old i l)
            ∙ ap (λ (a : ℕ). cond (less i) a (get_or starts i 0)) (get_or-replicate 8 i n 0 l))
            ∙ either_place n (get_or starts i 0) i (less i)

-- ---- the least of all lanes
pub ahead_self : (v : ℤ) (j : ℕ) → IsAhead v j v j
ahead_self v j = record { most = omega (arith, ints); less = λ b. absurd (omega arith) }

pub ahead_on : (v w u : ℤ) (j k m : ℕ) → IsAhead v j w k → IsAhead w k u m → IsAhead v j u m
ahead_on v w u j k m a b = record { most = omega (arith, ints, a.most, b.most); less = λ l. pick l (cases_lt k j) }
  where
    pick : m < j → (k < j) ⊎ (j ≤ k) → v <ℤ u
    pick l (inl s) = let c = a.less s in let d = b.most in omega (arith, ints)
    pick l (inr g) = let c = b.less (omega arith) in let d = a.most in omega (arith, ints)

-- of the first lanes, the one of the least sum, at its first place
pub record IsBestLane (x y : List ℤ) (n : ℕ) (sums : List ℤ) (starts : List ℕ) (lanes : ℕ) (v : ℤ) (j : ℕ) : Type 0 where
  pub within : j < n
  pub reached : v ≡ sum_at x y j
  pub small : unsigned_abs v ≤ 2 ^ 62
  pub ahead : (i : ℕ) → i < lanes → IsAhead v j (get_or sums i (pos 0)) (get_or starts i 0 + i)

module _ (x y : List ℤ) (n : ℕ) (sums : List ℤ) (starts : List ℕ) (h : AreRunning x y n sums starts) where
  pub best_first : IsBestLane x y n sums starts 1 (get_or sums 0 (pos 0)) (get_or starts 0 0)
  best_first =
      let l = h.least 0 (omega arith) in
      let z : get_or starts 0 0 + 0 ≡ get_or starts 0 0 = omega arith in
      record {
        within = omega (arith, l.within);
        reached = subst (λ j. get_or sums 0 (pos 0) ≡ sum_at x y j) z l.reached;
        small = h.small 0 (omega arith);
        ahead = λ i lt. let e : 0 ≡ i = omega arith in
            subst (λ i. IsAhead (get_or sums 0 (pos 0)) (get_or starts 0 0) (get_or sums i (pos 0)) (get_or starts i 0 + i)) e
            (subst (λ j. IsAhead (get_or sums 0 (pos 0)) (get_or starts 0 0) (get_or sums 0 (pos 0)) j) (sym z) (ahead_self (get_or sums 0 (pos 0)) (get_or starts 0 0)));
      }

  module _ (k : ℕ) (in_lanes : k < 8) (v : ℤ) (j : ℕ) (b : IsBestLane x y n sums starts k v j) where
    pub best_kept : IsAhead v j (get_or sums k (pos 0)) (get_or starts k 0 + k) → IsBestLane x y n sums starts (k + 1) v j
    best_kept a = record { within = b.within; reached = b.reached; small = b.small; ahead = λ i l. pick i l (cases_lt i k) }
      where
        pick : (i : ℕ) → i < k + 1 → (i < k) ⊎ (k ≤ i) → IsAhead v j (get_or sums i (pos 0)) (get_or starts i 0 + i)
        pick i l (inl s) = b.ahead i s
        pick i l (inr g) = let e : k ≡ i = omega arith in subst (λ i. IsAhead v j (get_or sums i (pos 0)) (get_or starts i 0 + i)) e a

    pub best_taken : IsAhead (get_or sums k (pos 0)) (get_or starts k 0 + k) v j → IsBestLane x y n sums starts (k + 1) (get_or sums k (pos 0)) (get_or starts k 0 + k)
    best_taken a = record {
      within = (h.least k in_lanes).within;
      reached = (h.least k in_lanes).reached;
      small = h.small k in_lanes;
      ahead = λ i l. pick i l (cases_lt i k);
    }
      where
        pick : (i : ℕ) → i < k + 1 → (i < k) ⊎ (k ≤ i) → IsAhead (get_or sums k (pos 0)) (get_or starts k 0 + k) (get_or sums i (pos 0)) (get_or starts i 0 + i)
        pick i l (inl s) = ahead_on (get_or sums k (pos 0)) v (get_or sums i (pos 0)) (get_or starts k 0 + k) j (get_or starts i 0 + i) a (b.ahead i s)
        pick i l (inr g) =
            let e : k ≡ i = omega arith in
            subst (λ i. IsAhead (get_or sums k (pos 0)) (get_or starts k 0 + k) (get_or sums i (pos 0)) (get_or starts i 0 + i)) e (ahead_self (get_or sums k (pos 0)) (get_or starts k 0 + k))

  pub best_all : (v : ℤ) (j : ℕ) → IsBestLane x y n sums starts 8 v j → IsLeastSum x y n v j
  best_all v j b = record {
    within = b.within;
    reached = b.reached;
    least = λ k l. (ahead_all k l).most;
    first = λ k l. (ahead_all k (omega (arith, b.within))).less l;
  }
    where
      ahead_all : (k : ℕ) → k < n → IsAhead v j (sum_at x y k) k
      ahead_all k l =
          let i : ℕ = k % 8 in
          ahead_on v (get_or sums i (pos 0)) (sum_at x y k) j (get_or starts i 0 + i) k (b.ahead i (omega arith)) ((h.least i (omega arith)).ahead k l refl)
