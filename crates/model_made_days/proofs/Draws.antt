-- States and demands, one draw after another.
use Rattle.std.proofs.Common.{◌≡◌, ℕ, zero, suc, ◌+◌, ◌*◌, ◌/◌, ◌%◌, ◌^◌, ◌<◌, ◌≤◌, List, [], ◌∷◌, ◌++◌, length, map, append_assoc, refl, sym, ap, ◌∙◌, arith}
use Rattle.std.specs.List.{range_with_len}
use Rattle.std.proofs.Math.Nat.{mod-add-mod}
use Rattle.std.proofs.lemmas.List.FromFn.{map-range_with_len_more, length-map-range_with_len}
use Rattle.std.proofs.lemmas.Nat.{mod_below}
use Rattle.model_rosters.specs.declared.instance.Cell.{Cell}
use Rattle.model_rosters.specs.Demands.{PeriodDemand, Demand, demand_cell, cells_from, demand_cells, all_cells}
use Rattle.model_made_days.specs.Draws.{next, answer, after, draw}
use Rattle.model_made_days.specs.Made.{asked, drawn}

-- the step in two, each modulo 2 ^ 64
pub next_wraps : (x : ℕ) → (x * 6364136223846793005 % 2 ^ 64 + 1442695040888963407) % 2 ^ 64 ≡ next x
unfolding next
next_wraps x = mod-add-mod (x * 6364136223846793005) (2 ^ 64) 1442695040888963407

pub answer_shifts : (x m : ℕ) → x / 2 ^ 33 % m ≡ answer x m
unfolding answer
answer_shifts x m = refl

pub answer_below : (x m : ℕ) → 1 ≤ m → answer x m < m
unfolding answer
answer_below x m h = mod_below (x / 2 ^ 33) m h

pub after-after : (x j k : ℕ) → after (after x j) k ≡ after x (j + k)
after-after x j zero = let e : j + zero ≡ j = omega arith in rw e refl
after-after x j (suc k) =
    let e : j + suc k ≡ suc (j + k) = omega arith in rw e (ap (λ (s : ℕ). next s) (after-after x j k))

-- the cells of some periods and of one more
cells_from-more : (code under over : ℕ) (ps qs xs : List PeriodDemand) (y : PeriodDemand) (p q : ℕ)
    → p + length xs ≡ q
    → cells_from (record { code = code; under = under; over = over; periods = ps }) p (xs ++ y ∷ [])
    ≡ cells_from (record { code = code; under = under; over = over; periods = qs }) p xs
    ++ demand_cell (record { code = code; under = under; over = over; periods = qs }) q y ∷ []
cells_from-more code under over ps qs [] y p q e =
    let f : p ≡ q = omega arith in rw f refl
cells_from-more code under over ps qs (x ∷ xs) y p q e =
    let rest = cells_from-more code under over ps qs xs y (p + 1) q (omega arith) in cc

-- the cell of a period with this need
abbrev pub cell_of : ℕ → ℕ → ℕ → ℕ → Cell
cell_of code under p need = record {
  code = code;
  period = p;
  need = need;
  under = under;
  over = 1;
  floor = 0;
  ceiling = 64;
}

-- the cells of n periods and of one more, whose need is the next draw
pub cells_more : (s m code under n : ℕ) → demand_cells (drawn s 0 m code under (n + 1))
    ≡ demand_cells (drawn s 0 m code under n)
    ++ cell_of code under (n + 1) (answer (next (after s n)) m) ∷ []
cells_more s m code under n =
    let f : ℕ → PeriodDemand = λ p. asked (draw s (0 + p) m) in
    let old = map f (range_with_len 1 n) in
    let new = map f (range_with_len 1 (n + 1)) in
    let more = map-range_with_len_more f 1 n (n + 1) (omega arith) in
    let count : 1 + length old ≡ n + 1 = omega (arith, length-map-range_with_len f 1 n) in
    let cells = cells_from-more code under 1 new old old (f (n + 1)) 1 (n + 1) count in
    let place : 0 + (n + 1) ≡ suc n = omega arith in
    let need : draw s (0 + (n + 1)) m ≡ answer (next (after s n)) m = rw place refl in
    ap (λ (xs : List PeriodDemand). cells_from (drawn s 0 m code under (n + 1)) 1 xs) more ∙ cells
    ∙ ap (λ (x : ℕ). demand_cells (drawn s 0 m code under n) ++ cell_of code under (n + 1) x ∷ []) need

pub after_more : (s n : ℕ) → after s (n + 1) ≡ next (after s n)
after_more s n = let e : n + 1 ≡ suc n = omega arith in rw e refl

-- one draw and its cell
pub add_cell : (s m code under n g h x : ℕ) (old cells more : List Cell)
    → cells ≡ old ++ demand_cells (drawn s 0 m code under n) → g ≡ after s n → h ≡ next g → x ≡ answer h m
    → more ≡ cells ++ cell_of code under (n + 1) x ∷ []
    → (more ≡ old ++ demand_cells (drawn s 0 m code under (n + 1))) × (h ≡ after s (n + 1))
add_cell s m code under n g h x old cells more before state step need last =
    let now : h ≡ next (after s n) = step ∙ ap (λ (z : ℕ). next z) state in
    let cell = cell_of code under (n + 1) (answer (next (after s n)) m) in
    let last : more ≡ old ++ demand_cells (drawn s 0 m code under n) ++ cell ∷ [] =
    rw (last, before, need, now) refl in (
      last ∙ append_assoc old _ _ ∙ ap (λ (cs : List Cell). old ++ cs) (sym (cells_more s m code under n)),
      now ∙ sym (after_more s n),
    )

-- the draws that follow the first j are those of the state after them
needs_after : (number j m a n : ℕ)
    → map (λ p. asked (draw (after number j) (0 + p) m)) (range_with_len a n)
    ≡ map (λ p. asked (draw number (j + p) m)) (range_with_len a n)
needs_after number j m a zero = refl
needs_after number j m a (suc n) =
    let place : 0 + a ≡ a = omega arith in
    let need : draw (after number j) (0 + a) m ≡ draw number (j + a) m =
    rw place (ap (λ (s : ℕ). answer s m) (after-after number j a)) in
    let rest = needs_after number j m (a + 1) n in
    cc

drawn_after : (number j m code under n : ℕ)
    → drawn (after number j) 0 m code under n ≡ drawn number j m code under n
drawn_after number j m code under n =
    let demand : List PeriodDemand → Demand =
    λ ps. record { code = code; under = under; over = 1; periods = ps } in
    ap demand (needs_after number j m 1 n)

-- the cells of `a` and `b` that are drawn from a state
abbrev pub state_cells : ℕ → ℕ → ℕ → List Cell
state_cells s under n = all_cells (drawn s 0 4 0 under n ∷ drawn (after s n) 0 3 1 under n ∷ [])

-- those of a number, after its first three draws
abbrev pub number_cells : ℕ → ℕ → ℕ → List Cell
number_cells number under n = all_cells (drawn number 3 4 0 under n ∷ drawn number (3 + n) 3 1 under n ∷ [])

pub cells_after : (number under n : ℕ) → state_cells (after number 3) under n ≡ number_cells number under n
cells_after number under n =
    let s = after number 3 in
    let first = drawn_after number 3 4 0 under n in
    let second : drawn (after s n) 0 3 1 under n ≡ drawn number (3 + n) 3 1 under n =
    rw (after-after number 3 n) (drawn_after number (3 + n) 3 1 under n) in
    let both : ◌≡◌ {A = List Demand} (drawn s 0 4 0 under n ∷ drawn (after s n) 0 3 1 under n ∷ [])
    (drawn number 3 4 0 under n ∷ drawn number (3 + n) 3 1 under n ∷ []) = cc in
    ap all_cells both
