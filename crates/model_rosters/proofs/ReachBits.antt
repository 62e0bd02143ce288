-- The bits of a list of numbers after a write.
use Rattle.std.proofs.Common.{◌≡◌, ◌≢◌, ℕ, ◌+◌, ◌*◌, ◌%◌, ◌^◌, ◌<◌, ◌≤◌, ◌⊎◌, inl, inr, List, length, get_or, sym, ap, subst, ◌∙◌, arith, max, min, replicate}
use Rattle.std.proofs.Math.ListN.{set}
use Rattle.std.specs.Prelude.{bit_or}
use Rattle.std.specs.Int.{bit_at, w64}
use Rattle.std.proofs.lemmas.Bool.{cases_eq, cases_lt}
use Rattle.std.proofs.lemmas.List.{get_or-set_same, get_or-set_other, get_or-replicate, get_or_past, length-replicate}
use Rattle.std.proofs.lemmas.Nat.Bits.{bit_at_set_same, bit_at_set_other, bit_at-zero}
use Rattle.model_rosters.specs.Ranks.{reach_bit}

-- the number with the bit k
abbrev pub with_bit : ℕ → ℕ → ℕ
with_bit n k = bit_or n (1 * 2 ^ k % 2 ^ 64)

pub reach_bit-set_same : (reach : List ℕ) (i n y : ℕ) → i < length reach → reach_bit (set reach i n) i y ≡ bit_at n y
reach_bit-set_same reach i n y within = ap (λ (m : ℕ). bit_at m y) (get_or-set_same reach i n 0 within)

pub reach_bit-set_other : (reach : List ℕ) (i n x y : ℕ) → x ≢ i → reach_bit (set reach i n) x y ≡ reach_bit reach x y
reach_bit-set_other reach i n x y other = ap (λ (m : ℕ). bit_at m y) (get_or-set_other reach i x n 0 other)

-- the bits after one bit is added to one number
module _ (reach : List ℕ) (from to : ℕ) (within : from < length reach) (small : to < 64) where
  abbrev pub added : List ℕ
  added = set reach from (with_bit (get_or reach from 0) to)

  pub added_bit : reach_bit added from to ≡ 1
  added_bit = reach_bit-set_same reach from _ to within ∙ bit_at_set_same w64 (get_or reach from 0) to small

  -- another bit stays as it was
  pub other_bit : (x y : ℕ) → ((x ≡ from) × (y ≡ to)) ⊎ (reach_bit added x y ≡ reach_bit reach x y)
  other_bit x y = elim (cases_eq x from) [
    | inr other ↦ inr (reach_bit-set_other reach from _ x y other)
    | inl same ↦ elim (cases_eq y to) [
      | inl e ↦ inl (same, e)
      | inr ne ↦ inr (subst (λ (z : ℕ). reach_bit added z y ≡ reach_bit reach z y) (sym same)
          (reach_bit-set_same reach from _ y within ∙ bit_at_set_other w64 (get_or reach from 0) to small y ne))
    ]
  ]

  pub only_added : (x y : ℕ) → reach_bit added x y ≡ 1 → (reach_bit reach x y ≡ 1) ⊎ ((x ≡ from) × (y ≡ to))
  only_added x y h = elim (other_bit x y) [ inl e ↦ inr e | inr e ↦ inl (sym e ∙ h) ]

  pub kept : (x y : ℕ) → reach_bit reach x y ≡ 1 → reach_bit added x y ≡ 1
  kept x y h = elim (other_bit x y) [
    | inl e ↦ subst (λ (z : ℕ). reach_bit added z y ≡ 1) (sym e.0) (subst (λ (z : ℕ). reach_bit added from z ≡ 1) (sym e.1) added_bit)
    | inr e ↦ e ∙ h
  ]

-- the bit of y in the row of x, once what the pivot reaches is added
abbrev pub passed_bit : List ℕ → ℕ → ℕ → ℕ → ℕ
passed_bit reach pivot x y = max (reach_bit reach x y) (min (reach_bit reach x pivot) (reach_bit reach pivot y))

-- the rows before i have passed, and the others are as they were
pub record HasPassed (old reach : List ℕ) (pivot i : ℕ) : Type 0 where
  pub passed : (x y : ℕ) → x < i → reach_bit reach x y ≡ passed_bit old pivot x y
  pub waits : (x : ℕ) → i ≤ x → get_or reach x 0 ≡ get_or old x 0

-- one row more has passed
pub HasPassed-more : (old reach : List ℕ) (pivot i v : ℕ) → HasPassed old reach pivot i → i < length reach
    → ((y : ℕ) → bit_at v y ≡ max (reach_bit reach i y) (min (reach_bit reach i pivot) (reach_bit old pivot y)))
    → HasPassed old (set reach i v) pivot (i + 1)
HasPassed-more old reach pivot i v before within extended =
    let row : get_or reach i 0 ≡ get_or old i 0 = before.waits i (omega arith) in
    record {
      passed = λ x y lt. elim (cases_eq x i) [
        | inl e ↦ subst (λ (z : ℕ). reach_bit (set reach i v) z y ≡ passed_bit old pivot z y) (sym e)
            (reach_bit-set_same reach i v y within ∙ extended y
            ∙ ap (λ (m : ℕ). max (bit_at m y) (min (bit_at m pivot) (reach_bit old pivot y))) row)
        | inr ne ↦ reach_bit-set_other reach i v x y ne ∙ before.passed x y (omega arith)
      ];
      waits = λ x le. get_or-set_other reach i x v 0 (omega arith) ∙ before.waits x (omega arith);
    }

-- where nothing is reached yet
pub reach_bit-replicate : (n x y : ℕ) → reach_bit (replicate n 0) x y ≡ 0
reach_bit-replicate n x y = ap (λ (m : ℕ). bit_at m y) (zero_row n x) ∙ bit_at-zero y
  where
    zero_row : (n x : ℕ) → get_or {A = ℕ} (replicate n 0) x 0 ≡ 0
    zero_row n x = elim (cases_lt x n) [
      | inl lt ↦ get_or-replicate n x 0 0 lt
      | inr le ↦ get_or_past {X = ℕ} (replicate n 0) x 0 (omega (arith, length-replicate {A = ℕ} n 0))
    ]

-- the values of a table written up to i, and at i
pub table_more : (f : ℕ → ℕ) (xs : List ℕ) (i v : ℕ) → i < length xs → ((x : ℕ) → x < i → get_or xs x 0 ≡ f x) → v ≡ f i
    → (x : ℕ) → x < i + 1 → get_or (set xs i v) x 0 ≡ f x
table_more f xs i v within before here x lt = elim (cases_eq x i) [
  | inl e ↦ subst (λ (z : ℕ). get_or (set xs i v) z 0 ≡ f z) (sym e) (get_or-set_same xs i v 0 within ∙ here)
  | inr ne ↦ get_or-set_other xs i x v 0 ne ∙ before x (omega arith)
]
