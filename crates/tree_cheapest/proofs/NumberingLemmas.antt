-- The numbers of letters, as they are given.
use Rattle.std.proofs.Common.{◌≡◌, ◌≢◌, ℕ, zero, suc, ◌<◌, ◌+◌, ◌-◌, ◌*◌, List, [], ◌∷◌, ◌++◌, Some, arith, subst, sym, ap, ◌∙◌, ◌⊎◌, inl, inr, length, length-append, get_or, set, replicate}
use Rattle.std.specs.Prelude.{slice_get}
use Rattle.std.proofs.lemmas.List.{get_or-set_same, get_or-set_other, length-set, get_or-replicate, get_or_past, length-replicate}
use Rattle.std.proofs.lemmas.Grind.{get_or_default_zero}
use Rattle.std.proofs.lemmas.Bool.{cases_eq, cases_lt}
use Rattle.tree_span_cells.proofs.CellsLemmas.{same-row}
use Rattle.model_rosters.proofs.tree_laws.ListPushes.{push-kept, push-here}
use Rattle.tree_cheapest.specs.declared.slots.Spot.{Spot}
use Rattle.tree_cheapest.specs.Numbering.{AreNumbered, Grows}

all_zero : (n k : ℕ) → get_or {A = ℕ} (replicate n 0) k 0 ≡ 0
all_zero n k = elim (cases_lt k n) [
  | inl lt ↦ get_or-replicate n k 0 0 lt
  | inr le ↦ get_or_past {X = ℕ} (replicate n 0) k 0 (omega (arith, length-replicate {A = ℕ} n 0))
]

-- at first no letter has a number
pub numbered-none : (listed : List Spot) (numbers : List ℕ) (n : ℕ) → numbers ≡ replicate n 0 → length numbers ≡ 65536 → AreNumbered listed numbers
numbered-none listed numbers n e count = record { count = count; known = λ c i j lc li h. absurd (never (c * 256 + i) j h) }
  where
    never : (k j : ℕ) → get_or numbers k 0 ≡ suc j → ⊥
    never k j h = let z : get_or numbers k 0 ≡ 0 = ap (λ (xs : List ℕ). get_or xs k 0) e ∙ all_zero n k in omega (arith, z, h)

-- a number above 0 is that of the letter, plus 1
pub number-known : (listed : List Spot) (numbers : List ℕ) → AreNumbered listed numbers → (c i n : ℕ) → c < 256 → i < 256 → n ≡ get_or numbers (c * 256 + i) n → 0 < n
    → slice_get listed (n - 1) ≡ Some (record { code = c; period = i })
number-known listed numbers are c i zero lc li at some = absurd (omega (arith, some))
number-known listed numbers are c i (suc n) lc li at some =
    let inside : c * 256 + i < length numbers = omega (arith, lc, li, are.count) in
    let e : n ≡ suc n - 1 = omega arith in
    subst (λ (k : ℕ). slice_get listed k ≡ Some (record { code = c; period = i })) e
    (are.known c i n lc li (sym (get_or_default_zero numbers (c * 256 + i) (suc n) inside) ∙ sym at))

-- a further letter gets the next number
pub numbered-next : (listed : List Spot) (numbers : List ℕ) → AreNumbered listed numbers → (c i : ℕ) → c < 256 → i < 256
    → AreNumbered (listed ++ record { code = c; period = i } ∷ []) (set numbers (c * 256 + i) (length listed + 1))
numbered-next listed numbers are c i lc li = record {
  count = length-set numbers (c * 256 + i) (length listed + 1) ∙ are.count;
  known = λ d k j ld lk h. by d k j ld lk h (cases_eq (d * 256 + k) (c * 256 + i));
}
  where
    spot : Spot
    spot = record { code = c; period = i }

    inside : c * 256 + i < length numbers
    inside = omega (arith, lc, li, are.count)

    by : (d k j : ℕ) → d < 256 → k < 256 → get_or (set numbers (c * 256 + i) (length listed + 1)) (d * 256 + k) 0 ≡ suc j
        → (d * 256 + k ≡ c * 256 + i) ⊎ (d * 256 + k ≢ c * 256 + i) → slice_get (listed ++ record { code = c; period = i } ∷ []) j ≡ Some (record { code = d; period = k })
    by d k j ld lk h (inl e) =
        let row = same-row 256 d k c i lk li e in
        let now : get_or (set numbers (c * 256 + i) (length listed + 1)) (d * 256 + k) 0 ≡ length listed + 1 =
        ap (λ (q : ℕ). get_or (set numbers (c * 256 + i) (length listed + 1)) q 0) e ∙ get_or-set_same numbers (c * 256 + i) (length listed + 1) 0 inside in
        let last : length listed ≡ j = omega (arith, now, h) in
        let one : slice_get (listed ++ record { code = c; period = i } ∷ []) j ≡ Some (record { code = c; period = i }) =
        subst (λ (q : ℕ). slice_get (listed ++ record { code = c; period = i } ∷ []) q ≡ Some (record { code = c; period = i })) last (push-here listed (record { code = c; period = i })) in
        one ∙ ap (λ (q : ℕ). Some (record { code = q; period = i })) (sym row.0) ∙ ap (λ (q : ℕ). Some (record { code = d; period = q })) (sym row.1)
    by d k j ld lk h (inr ne) =
        push-kept listed (record { code = c; period = i }) (record { code = d; period = k }) j
        (are.known d k j ld lk (sym (get_or-set_other numbers (c * 256 + i) (d * 256 + k) (length listed + 1) 0 ne) ∙ h))

-- the letters keep their numbers
pub grows-none : (listed : List Spot) → Grows listed listed
grows-none listed = record { kept = λ j l e. e; most = omega arith }

pub grows-one : (listed : List Spot) (l : Spot) → Grows listed (listed ++ l ∷ [])
grows-one listed l = record { kept = λ j s e. push-kept listed l s j e; most = omega (arith, length-append listed (l ∷ [])) }
