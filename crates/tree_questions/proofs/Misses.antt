-- What a day misses of a prefix, as a sum of falling powers of two.
use Rattle.std.proofs.Common.{◌≡◌, ◌⊎◌, inl, inr, ℕ, zero, suc, ℤ, pos, ◌+ℤ◌, ◌+◌, ◌-◌, ◌*◌, ◌^◌, ◌<◌, ◌≤◌, ◌==◌, if◌then◌else◌, Bool, true, false, Option, None, Some, List, [], ◌∷◌, ◌++◌, length, length-append, take, append_assoc, add-one, eq-eqb, arith, rules, SFits, to_z, of_z, refl, sym, ap, subst, ◌∙◌}
use Rattle.std.specs.Prelude.{min}
use Rattle.std.specs.Int.{w128}
use Rattle.std.proofs.lemmas.Int.{ints, to_z-of_z}
use Rattle.std.proofs.lemmas.Bool.{eqb-true}
use Rattle.std.proofs.lemmas.List.{append-nil}
use Rattle.std.proofs.Math.Nat.{pow-le-pow_right}
use Rattle.std.proofs.lemmas.Nat.{leading_length}
use lib.Count.{count_leading_zeros}
use Rattle.model_rosters.specs.declared.grammar.Grammar.{Grammar}
use Rattle.model_rosters.specs.Arcs.{used_rules}
use Rattle.model_rosters.specs.Folds.{sum_n}
use Rattle.model_rosters.specs.Shifts.{IsShift}
use Rattle.model_rosters.specs.Sound.{IsSound}
use Rattle.model_rosters.specs.Sums.{AtMost, IsLeast, plus, tree_sum}
use Rattle.model_rosters.specs.Trees.{Parts, IsDayTree, word}
use Rattle.model_rosters.proofs.word_prices.Costs.{shift-length}
use Rattle.model_rosters.proofs.word_prices.WordLetters.{at_front}
use Rattle.tree_questions.specs.Prices.{at_period, miss, miss_view}
use Rattle.tree_questions.specs.Shifts.{Begins, BeginsSome, IsLongest}
use Rattle.tree_questions.proofs.TreeSums.{letters_sum, tree-summed}
use Rattle.tree_questions.proofs.PatternLetters.{behind-all}

-- what a word misses of a prefix
abbrev pub missed : List ℕ → List ℕ → ℕ
missed [] w = 0
missed (x ∷ xs) [] = 0
missed (x ∷ xs) (b ∷ bs) = (if x == b then 0 else 2 ^ length bs) + missed xs bs

-- ---- powers

twice : (k : ℕ) → 2 ^ suc k ≡ 2 ^ k + 2 ^ k
twice k = grind arith

some_power : (k : ℕ) → 1 ≤ 2 ^ k
some_power zero = omega arith
some_power (suc k) = let e = twice k in let h = some_power k in omega (arith, e, h)

pick_le : (t : Bool) (n : ℕ) → (if t then 0 else n) ≤ n
pick_le true n = omega arith
pick_le false n = omega arith

-- a word misses less than what a letter before it may cost
pub missed-less : (xs w : List ℕ) → missed xs w < 2 ^ length w
missed-less [] w = some_power (length w)
missed-less (x ∷ xs) [] = omega arith
missed-less (x ∷ xs) (b ∷ bs) =
    let h = missed-less xs bs in
    let p = pick_le (x == b) (2 ^ length bs) in
    let e = twice (length bs) in
    omega (arith, h, p, e)

same_head : (x b : ℕ) (xs bs : List ℕ) → b ∷ bs ≡ x ∷ xs → x ≡ b
same_head x b xs bs e = cc

same_tail : (x b : ℕ) (xs bs : List ℕ) → b ∷ bs ≡ x ∷ xs → bs ≡ xs
same_tail x b xs bs e = cc

-- a word that begins with so much of the prefix misses less
pub begun-less : (xs w : List ℕ) (j : ℕ) → j ≤ length xs → Begins (take j xs) w → missed xs w < 2 ^ (length w - j)
begun-less xs w zero h k = let e : length w - 0 ≡ length w = omega arith in rw e (missed-less xs w)
begun-less [] w (suc j) h k = absurd (omega arith)
begun-less (x ∷ xs) [] (suc j) h k = let no : ◌≡◌ {A = List ℕ} [] (x ∷ (take j xs ++ k.0)) = k.1 in cc
begun-less (x ∷ xs) (b ∷ bs) (suc j) h k =
    let same = same_head x b (take j xs ++ k.0) bs k.1 in
    let rest = same_tail x b (take j xs ++ k.0) bs k.1 in
    let ih = begun-less xs bs j (omega (arith, h)) (k.0, rest) in
    let hit : (x == b) ≡ true = eq-eqb x b same in
    let e : length (b ∷ bs) - suc j ≡ length bs - j = omega arith in
    let zero_more : 0 + missed xs bs ≡ missed xs bs = omega arith in
    rw (hit, e, zero_more) ih

take-nil : (k : ℕ) → ◌≡◌ {A = List ℕ} (take k []) []
take-nil zero = refl
take-nil (suc k) = refl

nothing : (xs w : List ℕ) (k : ℕ) → k ≡ 0 → Begins (take k xs) w
nothing xs w k e = rw e (w, refl)

either : (a b : ℕ) → (a ≤ b) ⊎ (b + 1 ≤ a)
either a b = grind arith

-- and a word that misses so little begins with so much
pub less-begun : (xs w : List ℕ) (m : ℕ) → m ≤ length w → missed xs w < 2 ^ m → Begins (take (length w - m) xs) w
less-begun [] w m h k = rw (take-nil (length w - m)) (w, refl)
less-begun (x ∷ xs) [] m h k = nothing (x ∷ xs) [] (0 - m) (omega arith)
less-begun (x ∷ xs) (b ∷ bs) m h k = by (λ some less. less-begun xs bs m some less) (either m (length bs)) (x == b) refl
  where
    by : (m ≤ length bs → missed xs bs < 2 ^ m → Begins (take (length bs - m) xs) bs) → (m ≤ length bs) ⊎ (length bs + 1 ≤ m) → (t : Bool) → (x == b) ≡ t → Begins (take (length (b ∷ bs) - m) (x ∷ xs)) (b ∷ bs)
    by again (inr all) t e = nothing (x ∷ xs) (b ∷ bs) (length (b ∷ bs) - m) (omega arith)
    by again (inl some) true e =
        let zero_more : 0 + missed xs bs ≡ missed xs bs = omega arith in
        let less : missed xs bs < 2 ^ m = rw (e, zero_more) at k in
        let ih = again some less in
        let long : length (b ∷ bs) - m ≡ suc (length bs - m) = omega arith in
        let same : x ≡ b = eqb-true x b e in
        rw long (ih.0, cc (same, ih.1))
    by again (inl some) false e =
        let less : 2 ^ length bs + missed xs bs < 2 ^ m = rw e at k in
        let power : ◌≤◌ (2 ^ m) (2 ^ length bs) = pow-le-pow_right (omega arith) some in
        absurd (omega (arith, less, power))

-- ---- bits

-- a number has m bits
pub record AreBits (n m : ℕ) : Type 0 where
  pub within : n < 2 ^ m
  pub least : (k : ℕ) → n < 2 ^ k → m ≤ k

pub bits-are : (n : ℕ) → n < 2 ^ 128 → AreBits n (128 - count_leading_zeros 128 n)
bits-are n h =
    let r = leading_length 128 n h in
    let m : 128 - count_leading_zeros 128 n ≡ r.0 = omega (arith, r.1) in
    record { within = rw m r.2; least = λ k less. by k less r.0 r.3 m (either (128 - count_leading_zeros 128 n) k) }
  where
    by : (k : ℕ) → n < 2 ^ k → (m : ℕ) → 2 ^ m ≤ 2 * n + 1 → 128 - count_leading_zeros 128 n ≡ m
        → (128 - count_leading_zeros 128 n ≤ k) ⊎ (k + 1 ≤ 128 - count_leading_zeros 128 n) → 128 - count_leading_zeros 128 n ≤ k
    by k less m top e (inl few) = few
    by k less m top e (inr many) =
        let more : ◌≤◌ (2 ^ suc k) (2 ^ m) = pow-le-pow_right (omega arith) (omega (arith, many, e)) in
        let double = twice k in
        absurd (omega (arith, less, top, more, double))

-- a sum as it is kept in 128 bits
pub kept-sum : (z : ℤ) (n : ℕ) → z ≡ pos n → n < 2 ^ 127 → to_z w128 (of_z w128 z) ≡ pos n
kept-sum z n same small =
    let fits : SFits w128 (pos n) = search (rules, small) in
    rw same (to_z-of_z w128 (pos n) fits)

-- ---- sums of days

module _ (g : Grammar) (sound : IsSound g) where
  abbrev price_by : List ℕ → ℕ → ℕ → Option ℤ
  price_by prefix i b = Some (pos (miss (at_period prefix i) b (g.periods - i)))

  rest_free : (prefix w : List ℕ) (k : ℕ) → length prefix ≤ k → letters_sum (price_by prefix) (k + 1) w ≡ Some (pos 0)
  rest_free prefix [] k h = refl
  rest_free prefix (b ∷ bs) k h =
      let e : k + 1 ≡ suc k = add-one k in
      let past = behind-all prefix k h in
      let here : at_period prefix (k + 1) ≡ None = ap (at_period prefix) e ∙ past in
      let ih = rest_free prefix bs (k + 1) (omega (arith, h)) in
      let rest = letters_sum (price_by prefix) (k + 1 + 1) bs in
      ap (λ (o : Option ℕ). plus (Some (pos (miss o b (g.periods - (k + 1))))) rest) here ∙ ap (λ (o : Option ℤ). plus (Some (pos 0)) o) ih

  misses-summed : (xs w front : List ℕ) → length front + length w ≡ g.periods
      → letters_sum (price_by (front ++ xs)) (length front + 1) w ≡ Some (pos (missed xs w))
  misses-summed [] w front e = let nil = append-nil front in rw nil (rest_free front w (length front) (omega arith))
  misses-summed (x ∷ xs) [] front e = refl
  misses-summed (x ∷ xs) (b ∷ bs) front e =
      let at : at_period (front ++ x ∷ xs) (length front + 1) ≡ Some x = ap (at_period (front ++ x ∷ xs)) (add-one (length front)) ∙ at_front front xs x in
      let left : g.periods - (length front + 1) ≡ length bs = omega (arith, e) in
      let own : miss (at_period (front ++ x ∷ xs) (length front + 1)) b (g.periods - (length front + 1)) ≡ (if x == b then 0 else 2 ^ length bs) =
      ap (λ (o : Option ℕ). miss o b (g.periods - (length front + 1))) at ∙ ap (λ (n : ℕ). if x == b then 0 else 2 ^ n) left in
      let longer : length (front ++ x ∷ []) ≡ length front + 1 = length-append front (x ∷ []) in
      let more = misses-summed xs bs (front ++ x ∷ []) (omega (arith, longer, e)) in
      let same : letters_sum (price_by (front ++ x ∷ xs)) (length front + 1 + 1) bs ≡ Some (pos (missed xs bs)) =
      ap (λ (ys : List ℕ). letters_sum (price_by ys) (length front + 1 + 1) bs) (sym (append_assoc front (x ∷ []) xs))
      ∙ ap (λ (n : ℕ). letters_sum (price_by ((front ++ x ∷ []) ++ xs)) (n + 1) bs) (sym longer) ∙ more in
      ap (λ (n : ℕ). plus (Some (pos n)) (letters_sum (price_by (front ++ x ∷ xs)) (length front + 1 + 1) bs)) own
      ∙ ap (λ (o : Option ℤ). plus (Some (pos (if x == b then 0 else 2 ^ length bs))) o) same

  nothing_more : (us : List ℕ) → sum_n (λ r. 0) us ≡ 0
  nothing_more [] = refl
  nothing_more (u ∷ us) = let e = nothing_more us in omega (arith, e)

  word_long : (t : Parts) → IsDayTree g t → length (word g t) ≡ g.periods
  word_long t d = shift-length g g.start (word g t) sound (t, record { derives = d; word = refl })

  pub misses-tree : (prefix : List ℕ) (t : Parts) → IsDayTree g t → tree_sum (miss_view g prefix) 1 t ≡ Some (pos (missed prefix (word g t)))
  misses-tree prefix t d =
      let summed = tree-summed g sound (price_by prefix) (λ r. 0) g.start t d in
      let letters : letters_sum (price_by prefix) 1 (word g t) ≡ Some (pos (missed prefix (word g t))) =
      misses-summed prefix (word g t) [] (let e = word_long t d in omega (arith, e)) in
      summed ∙ ap (λ (o : Option ℤ). plus o (Some (pos (sum_n (λ r. 0) (used_rules t))))) letters
      ∙ ap (λ (n : ℕ). Some (pos (missed prefix (word g t)) +ℤ pos n)) (nothing_more (used_rules t))
      ∙ ap (λ (z : ℤ). Some z) (no_more (missed prefix (word g t)))
    where
      no_more : (n : ℕ) → pos n +ℤ pos 0 ≡ pos n
      no_more n = omega (arith, ints)

  same_pos : (z : ℤ) (n : ℕ) → Some z ≡ Some (pos n) → z ≡ pos n
  same_pos z n e = cc

  below : (a b : ℕ) (z : ℤ) → AtMost (Some z) (Some (pos b)) → z ≡ pos a → a ≤ b
  below a b z h e = omega (arith, ints, h, e)

  take-all : (xs : List ℕ) (k : ℕ) → length xs ≤ k → take k xs ≡ xs
  take-all [] k h = take-nil k
  take-all (x ∷ xs) zero h = absurd (omega arith)
  take-all (x ∷ xs) (suc k) h = ap (λ (ys : List ℕ). x ∷ ys) (take-all xs k (omega arith))

  long_take : (xs : List ℕ) (j : ℕ) → j ≤ length xs → length (take j xs) ≡ j
  long_take xs zero h = refl
  long_take [] (suc j) h = absurd (omega arith)
  long_take (x ∷ xs) (suc j) h = let e = long_take xs j (omega arith) in omega (arith, e)

  module _ (prefix : List ℕ) (z : ℤ) (h : IsLeast (IsDayTree g) (tree_sum (miss_view g prefix) 1) (Some z)) where
    -- the least sum is a number of less bits than the day has periods
    pub record Least : Type 0 where
      pub number : ℕ
      pub is : z ≡ pos number
      pub small : number < 2 ^ g.periods
      pub begins : (m : ℕ) → m ≤ g.periods → number < 2 ^ m → BeginsSome g (take (g.periods - m) prefix)
      pub longest : (j : ℕ) → j ≤ length prefix → BeginsSome g (take j prefix) → (j ≤ g.periods) × (number < 2 ^ (g.periods - j))

    pub least-misses : Least
    least-misses =
        let t = h.attained.0 in
        let d = h.attained.1 in
        let long = word_long t d in
        let is = same_pos z (missed prefix (word g t)) (sym h.attained.2 ∙ misses-tree prefix t d) in
        record {
          number = missed prefix (word g t);
          is = is;
          small = subst (λ (n : ℕ). missed prefix (word g t) < 2 ^ n) long (missed-less prefix (word g t));
          begins = λ m few less. (
            word g t,
            (t, record { derives = d; word = refl }),
            subst (λ (n : ℕ). Begins (take (n - m) prefix) (word g t)) long (less-begun prefix (word g t) m (omega (arith, few, long)) less),
          );
          longest = λ j some k.
              let u = k.1.0 in
              let day = k.1.1.derives in
              let spelled = k.1.1.word in
              let own = word_long u day in
              let begun : Begins (take j prefix) (word g u) = rw spelled k.2 in
              let size = ap length begun.1 in
              let parts = length-append (take j prefix) begun.0 in
              let front = long_take prefix j some in
              let less = subst (λ (n : ℕ). missed prefix (word g u) < 2 ^ (n - j)) own (begun-less prefix (word g u) j some begun) in
              let most = below (missed prefix (word g t)) (missed prefix (word g u)) z (rw (misses-tree prefix u day) at (h.least u day)) is in
              (omega (arith, size, parts, front, own), omega (arith, less, most));
        }

    pub small-misses : least-misses.number < 2 ^ 96
    small-misses =
        let less = least-misses.small in
        let power : ◌≤◌ (2 ^ g.periods) (2 ^ 96) = pow-le-pow_right (omega arith) sound.few_periods in
        omega (arith, less, power)

    pub kept-misses : to_z w128 (of_z w128 z) ≡ pos least-misses.number
    kept-misses = let e = small-misses in kept-sum z least-misses.number least-misses.is (omega (arith, e))

    pub is-longest : (n m k : ℕ) → z ≡ pos n → AreBits n m → k ≡ min (length prefix) (g.periods - m) → IsLongest g prefix k
    is-longest n m k e bits is =
        let least = least-misses in
        let same : n ≡ least.number = same_number n least.number z e least.is in
        let few : m ≤ g.periods = bits.least g.periods (rw same least.small) in
        let begins = least.begins m few (rw (← same) bits.within) in
        record {
          within = omega (arith, is);
          begins = by begins (either (g.periods - m) (length prefix));
          longest = λ j some h2.
              let r = least.longest j some h2 in
              let at_most = bits.least (g.periods - j) (rw same r.1) in
              omega (arith, is, at_most, few, some, r.0);
        }
      where
        same_number : (a b : ℕ) (z : ℤ) → z ≡ pos a → z ≡ pos b → a ≡ b
        same_number a b z e f = omega (arith, ints, e, f)

        by : BeginsSome g (take (g.periods - m) prefix) → (g.periods - m ≤ length prefix) ⊎ (length prefix + 1 ≤ g.periods - m) → BeginsSome g (take k prefix)
        by begins (inl some) = let e : k ≡ g.periods - m = omega (arith, is, some) in rw e begins
        by begins (inr all) =
            let e : k ≡ length prefix = omega (arith, is, all) in
            let whole = take-all prefix (g.periods - m) (omega (arith, all)) in
            let own = take-all prefix k (omega (arith, e)) in
            rw own (rw whole at begins)

  -- where no day has a sum there is no shift
  pub no-misses : (prefix : List ℕ) → IsLeast (IsDayTree g) (tree_sum (miss_view g prefix) 1) None → (w : List ℕ) → IsShift g g.start w → ⊥
  no-misses prefix h w shift = rw (misses-tree prefix shift.0 shift.1.derives) at (h.least shift.0 shift.1.derives)
