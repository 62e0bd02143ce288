-- The numbers of letters while cells pay one after another.
use Rattle.std.proofs.Common.{◌≡◌, ◌≢◌, ℕ, ◌+◌, ◌*◌, ◌^◌, ◌<◌, ◌≤◌, ◌⊎◌, inl, inr, Bool, true, false, cond, List, [], ◌∷◌, length, get_or, set, drop, Some, refl, sym, ap, subst, ◌∙◌, arith, All, get_or-set_same, get_or-set_other}
use Rattle.std.specs.Prelude.{ℤ, pos, neg_ℤ, ◌+ℤ◌, ◌-ℤ◌}
use Rattle.std.proofs.lemmas.Bool.{false≢true}
use Rattle.std.proofs.lemmas.Bool.Decides.{eqb_tells}
use Rattle.std.proofs.lemmas.Int.{ints}
use Rattle.std.proofs.lemmas.List.{at_drop_more, at_drop_all, length-set}
use Rattle.std.proofs.lemmas.List.Elements.{All-set, All-weaker}
use Rattle.std.proofs.lemmas.Nat.{mul-le}
use Rattle.std.proofs.lemmas.Option.{slice_get-get_or}
use Rattle.model_rosters.specs.declared.instance.Cell.{Cell}
use Rattle.model_rosters.specs.Arcs.{Letter}
use Rattle.model_rosters.specs.Coverage.{is_at}
use Rattle.model_rosters.specs.Filled.{HasPlace, AreLetterPrices}
use Rattle.model_rosters.specs.Reduced.{CellPrice, cell_prices, letter_price}
use Rattle.model_rosters.specs.RoomPrices.{letter_place}
use Rattle.model_rosters.specs.Sums.{Within}

-- letters of one place are one letter
far : (p c d i j : ℕ) → c < d → i ≤ p → letter_place p c i ≡ letter_place p d j → 1 ≤ i → ⊥
far p c d i j l last e first =
    let more = mul-le (c + 1) p d p (omega arith) (omega arith) in
    omega (arith, more)

same_place : (p c d i j : ℕ) → 1 ≤ i → i ≤ p → 1 ≤ j → j ≤ p → letter_place p c i ≡ letter_place p d j → (c ≡ d) × (i ≡ j)
same_place p c d i j a b x y e = elim (order c d) [
  | inl l ↦ absurd (far p c d i j l b e a)
  | inr h ↦ elim h [
    | inl l ↦ absurd (far p d c j i l y (sym e) x)
    | inr q ↦ (q, (let f : letter_place p d i ≡ letter_place p d j = ap (λ (z : ℕ). letter_place p z i) (sym q) ∙ e in omega arith))
  ]
]
  where
    order : (c d : ℕ) → (c < d) ⊎ ((d < c) ⊎ (c ≡ d))
    order c d = grind arith

-- whether the letter is the cell's
at-tells : (x : Cell) (l : Letter) → ((is_at x l ≡ true) × (x.code ≡ l.code) × (x.period ≡ l.period)) ⊎ ((is_at x l ≡ false) × ((x.code ≡ l.code) → (x.period ≡ l.period) → ⊥))
at-tells x l = elim (eqb_tells x.code l.code) [
  | inl c ↦ elim (eqb_tells x.period l.period) [
    | inl p ↦ inl (rw (c.0, p.0) refl, c.1, p.1)
    | inr p ↦ inr (rw (c.0, p.0) refl, λ a b. p.1 b)
  ]
  | inr c ↦ inr (rw c.0 refl, λ a b. c.1 a)
]

-- the number of a letter, with what the cells still to come pay
pub record IsPaid (p : ℕ) (rest all : List CellPrice) (numbers : List ℤ) : Type 0 where
  pub value : (c i : ℕ) → 1 ≤ i → i ≤ p → letter_place p c i < length numbers
      → get_or numbers (letter_place p c i) (pos 0) ≡ letter_price rest (record { code = c; period = i }) +ℤ neg_ℤ (letter_price all (record { code = c; period = i }))

pub paid-done : (p : ℕ) (all : List CellPrice) (numbers : List ℤ) → IsPaid p [] all numbers → AreLetterPrices p all numbers
paid-done p all numbers h c i a b l =
    slice_get-get_or numbers (letter_place p c i) (pos 0) l
    ∙ ap (λ (z : ℤ). Some z) (h.value c i a b l ∙ zero_plus (neg_ℤ (letter_price all (record { code = c; period = i }))))
  where
    zero_plus : (z : ℤ) → pos 0 +ℤ z ≡ z
    zero_plus z = omega (arith, ints)

pub paid-none : (p : ℕ) (all : List CellPrice) (numbers : List ℤ) → ((k : ℕ) → k < length numbers → get_or numbers k (pos 0) ≡ pos 0) → IsPaid p all all numbers
paid-none p all numbers h = record { value = λ c i a b l. h (letter_place p c i) l ∙ gone (letter_price all (record { code = c; period = i })) }
  where
    gone : (z : ℤ) → pos 0 ≡ z +ℤ neg_ℤ z
    gone z = omega (arith, ints)

module _ (p : ℕ) (x : Cell) (price : ℤ) (rest all : List CellPrice) (numbers : List ℤ) (place : HasPlace p (length numbers) x) where
  here : ℕ
  here = letter_place p x.code x.period

  pub paid-one : IsPaid p (record { cell = x; price = price } ∷ rest) all numbers
      → IsPaid p rest all (set numbers (letter_place p x.code x.period) (get_or numbers (letter_place p x.code x.period) (pos 0) -ℤ price))
  paid-one h = record { value = step }
    where
      moved : (b : Bool) (n r a : ℤ) → b ≡ true → n ≡ (cond b price (pos 0) +ℤ r) +ℤ neg_ℤ a → n -ℤ price ≡ r +ℤ neg_ℤ a
      moved true n r a e f = omega (arith, ints)
      moved false n r a e f = absurd (false≢true e)

      stays : (b : Bool) (n r a : ℤ) → b ≡ false → n ≡ (cond b price (pos 0) +ℤ r) +ℤ neg_ℤ a → n ≡ r +ℤ neg_ℤ a
      stays true n r a e f = absurd (false≢true (sym e))
      stays false n r a e f = omega (arith, ints)

      step : (c i : ℕ) → 1 ≤ i → i ≤ p → letter_place p c i < length (set numbers (letter_place p x.code x.period) (get_or numbers (letter_place p x.code x.period) (pos 0) -ℤ price))
          → get_or (set numbers (letter_place p x.code x.period) (get_or numbers (letter_place p x.code x.period) (pos 0) -ℤ price)) (letter_place p c i) (pos 0)
          ≡ letter_price rest (record { code = c; period = i }) +ℤ neg_ℤ (letter_price all (record { code = c; period = i }))
      step c i a b l =
          let within : letter_place p c i < length numbers = omega (arith, length-set numbers (letter_place p x.code x.period) (get_or numbers (letter_place p x.code x.period) (pos 0) -ℤ price)) in
          let old = h.value c i a b within in
          elim (at-tells x (record { code = c; period = i })) [
            | inl t ↦
                let same : letter_place p c i ≡ letter_place p x.code x.period = cc in
                rw same (get_or-set_same numbers (letter_place p x.code x.period) _ (pos 0) place.within
                ∙ moved (is_at x (record { code = c; period = i })) _ _ _ t.0 (rw same at old))
            | inr t ↦
                let other : letter_place p c i ≢ letter_place p x.code x.period =
                (λ e. let q = same_place p c x.code i x.period a b place.first place.last e in t.1 (sym q.0) (sym q.1)) in
                get_or-set_other numbers (letter_place p x.code x.period) (letter_place p c i) _ (pos 0) other
                ∙ stays (is_at x (record { code = c; period = i })) _ _ _ t.0 old
          ]

-- the cells and prices from one on
pub prices-drop : (cells : List Cell) (prices : List ℤ) (k : ℕ) (d : Cell) → length prices ≡ length cells → k < length cells
    → cell_prices (drop k cells) (drop k prices) ≡ record { cell = get_or cells k d; price = get_or prices k (pos 0) } ∷ cell_prices (drop (k + 1) cells) (drop (k + 1) prices)
prices-drop cells prices k d e l =
    at_drop_more (λ (xs : List Cell). cell_prices xs (drop k prices)) cells k d l
    ∙ at_drop_more (λ (ps : List ℤ). cell_prices (get_or cells k d ∷ drop (k + 1) cells) ps) prices k (pos 0) (omega arith)

within-less : (n k : ℕ) (z price : ℤ) → Within (2 ^ 80 * k) z → Within (2 ^ 80) price → Within (2 ^ 80 * (k + 1)) (z -ℤ price)
within-less n k z price h w = record { low = omega (arith, ints, h.low, w.high); high = omega (arith, ints, h.high, w.low) }

wider : (k : ℕ) (z : ℤ) → Within (2 ^ 80 * k) z → Within (2 ^ 80 * (k + 1)) z
wider k z h = record { low = omega (arith, ints, h.low); high = omega (arith, ints, h.high) }

pub within-set : (k q : ℕ) (numbers : List ℤ) (price : ℤ) → q < length numbers → All (Within (2 ^ 80 * k)) numbers → Within (2 ^ 80) price
    → All (Within (2 ^ 80 * (k + 1))) (set numbers q (get_or numbers q (pos 0) -ℤ price))
within-set k q numbers price l h w =
    All-set (Within (2 ^ 80 * (k + 1))) numbers q _ (within-less q k (get_or numbers q (pos 0)) price (h q (pos 0) l) w)
    (All-weaker (Within (2 ^ 80 * k)) (Within (2 ^ 80 * (k + 1))) (λ z g. wider k z g) numbers h)

module _ (p : ℕ) (cells : List Cell) (prices : List ℤ) (all : List CellPrice) (numbers : List ℤ) (k : ℕ) where
  -- one cell more has paid
  pub paid-step : (d : Cell) (q : ℕ) (y : ℤ) → length prices ≡ length cells → k < length cells → HasPlace p (length numbers) (get_or cells k d)
      → q ≡ letter_place p (get_or cells k d).code (get_or cells k d).period → y ≡ get_or numbers q (pos 0) -ℤ get_or prices k (pos 0)
      → All (Within (2 ^ 80)) prices
      → IsPaid p (cell_prices (drop k cells) (drop k prices)) all numbers → All (Within (2 ^ 80 * k)) numbers
      → IsPaid p (cell_prices (drop (k + 1) cells) (drop (k + 1) prices)) all (set numbers q y) × All (Within (2 ^ 80 * (k + 1))) (set numbers q y)
  paid-step d q y e l place is value small h w =
      let price = get_or prices k (pos 0) in
      let next : IsPaid p (record { cell = get_or cells k d; price = price } ∷ cell_prices (drop (k + 1) cells) (drop (k + 1) prices)) all numbers =
      (let P : List CellPrice → Type 0 = λ (xs : List CellPrice). IsPaid p xs all numbers in subst P (prices-drop cells prices k d e l) h) in (
        rw (value, is) (paid-one p (get_or cells k d) price (cell_prices (drop (k + 1) cells) (drop (k + 1) prices)) all numbers place next),
        rw (value, is) (within-set k (letter_place p (get_or cells k d).code (get_or cells k d).period) numbers price place.within w (small k (pos 0) (omega arith))),
      )

  pub paid-all : length cells ≤ k → IsPaid p (cell_prices (drop k cells) (drop k prices)) all numbers → AreLetterPrices p all numbers
  paid-all l h =
      let P : List CellPrice → Type 0 = λ (xs : List CellPrice). IsPaid p xs all numbers in
      paid-done p all numbers (subst P (at_drop_all (λ (xs : List Cell). cell_prices xs (drop k prices)) cells k l) h)
