-- The rows of a master by cells, heads and cuts.
use Rattle.std.proofs.Common.{true≢false, ◌≡◌, ℕ, ℤ, suc, arith, pos, ◌+ℤ◌, ◌+◌, Bool, true, false, cond, List, [], ◌∷◌, ◌++◌, length, refl, sym, ap, ◌∙◌}
use Rattle.std.proofs.lemmas.Int.{ints}
use Rattle.model_rosters.specs.declared.instance.Cell.{Cell}
use Rattle.model_rosters.specs.declared.instance.Cut.{Cut}
use Rattle.model_rosters.specs.declared.instance.Instance.{Instance}
use Rattle.model_rosters.specs.Folds.{sum_z, Each}
use Rattle.model_rosters.proofs.EachLemmas.{Each-append, Each-left, Each-right}
use Rattle.law_bounds.proofs.WholeSums.{sum_z-append}
use Rattle.law_bounds.specs.master_laws.Rows.{Row, cell_row, floor_row, ceiling_row, least_row, most_row, cut_row, has_floor, has_ceiling, cell_rows, floor_rows, ceiling_rows, cut_rows, rows_of}
use Rattle.law_bounds.specs.master_laws.Rounding.{CellLine, lines_from, cell_lines, first_ceiling, first_head, numbers_from}
use Rattle.law_bounds.proofs.master_laws.RowSums.{RowPrice, rows_in, priced}

abbrev pub at : Row → ℤ → RowPrice
at x z = record { row = x; price = z }

abbrev pub own_prices : List CellLine → List RowPrice
own_prices [] = []
own_prices (l ∷ ls) = at (cell_row l.cell) l.own ∷ own_prices ls

abbrev pub floor_prices : List CellLine → List RowPrice
floor_prices [] = []
floor_prices (l ∷ ls) = cond (has_floor l.cell) (at (floor_row l.cell) l.floor ∷ []) [] ++ floor_prices ls

abbrev pub ceiling_prices : List CellLine → List RowPrice
ceiling_prices [] = []
ceiling_prices (l ∷ ls) = cond (has_ceiling l.cell) (at (ceiling_row l.cell) l.ceiling ∷ []) [] ++ ceiling_prices ls

-- the rows of cuts with numbers
abbrev pub cut_numbers : List Cut → List ℤ → List RowPrice
cut_numbers [] xs = []
cut_numbers (c ∷ cs) [] = []
cut_numbers (c ∷ cs) (x ∷ xs) = at (cut_row c) x ∷ cut_numbers cs xs

-- all rows of a master
abbrev pub built : Instance → List CellLine → ℤ → ℤ → List Cut → List ℤ → List RowPrice
built i ls l m cuts xs = own_prices ls ++ (floor_prices ls ++ (ceiling_prices ls ++ (at (least_row i.heads_min) l ∷ at (most_row i.heads_max) m ∷ cut_numbers cuts xs)))

-- ---- which rows they are
rows_in-append : (xs ys : List RowPrice) → rows_in (xs ++ ys) ≡ rows_in xs ++ rows_in ys
rows_in-append [] ys = refl
rows_in-append (x ∷ xs) ys = ap (λ (zs : List Row). x.row ∷ zs) (rows_in-append xs ys)

abbrev pub cells_of : List CellLine → List Cell
cells_of [] = []
cells_of (l ∷ ls) = l.cell ∷ cells_of ls

own_rows : (ls : List CellLine) → rows_in (own_prices ls) ≡ cell_rows (cells_of ls)
own_rows [] = refl
own_rows (l ∷ ls) = ap (λ (zs : List Row). cell_row l.cell ∷ zs) (own_rows ls)

floors_are : (ls : List CellLine) → rows_in (floor_prices ls) ≡ floor_rows (cells_of ls)
floors_are [] = refl
floors_are (l ∷ ls) = by (has_floor l.cell) (floors_are ls)
  where
    by : (b : Bool) → rows_in (floor_prices ls) ≡ floor_rows (cells_of ls) → rows_in (cond b (at (floor_row l.cell) l.floor ∷ []) [] ++ floor_prices ls) ≡ cond b (floor_row l.cell ∷ []) [] ++ floor_rows (cells_of ls)
    by true e = ap (λ (zs : List Row). floor_row l.cell ∷ zs) e
    by false e = e

ceilings_are : (ls : List CellLine) → rows_in (ceiling_prices ls) ≡ ceiling_rows (cells_of ls)
ceilings_are [] = refl
ceilings_are (l ∷ ls) = by (has_ceiling l.cell) (ceilings_are ls)
  where
    by : (b : Bool) → rows_in (ceiling_prices ls) ≡ ceiling_rows (cells_of ls) → rows_in (cond b (at (ceiling_row l.cell) l.ceiling ∷ []) [] ++ ceiling_prices ls) ≡ cond b (ceiling_row l.cell ∷ []) [] ++ ceiling_rows (cells_of ls)
    by true e = ap (λ (zs : List Row). ceiling_row l.cell ∷ zs) e
    by false e = e

-- as many numbers as cuts
abbrev pub AreMany : List Cut → List ℤ → Type 0
AreMany [] [] = Unit {0}
AreMany (c ∷ cs) (x ∷ xs) = AreMany cs xs
AreMany [] (x ∷ xs) = ⊥
AreMany (c ∷ cs) [] = ⊥

cuts_are : (cuts : List Cut) (xs : List ℤ) → AreMany cuts xs → rows_in (cut_numbers cuts xs) ≡ cut_rows cuts
cuts_are [] [] h = refl
cuts_are [] (x ∷ xs) h = absurd h
cuts_are (c ∷ cs) [] h = absurd h
cuts_are (c ∷ cs) (x ∷ xs) h = ap (λ (zs : List Row). cut_row c ∷ zs) (cuts_are cs xs h)

pub built_rows : (i : Instance) (ls : List CellLine) (l m : ℤ) (cuts : List Cut) (xs : List ℤ) → cells_of ls ≡ i.cells → AreMany cuts xs → rows_in (built i ls l m cuts xs) ≡ rows_of i cuts
built_rows i ls l m cuts xs e h =
    let a = own_rows ls ∙ ap cell_rows e in
    let b = floors_are ls ∙ ap floor_rows e in
    let c = ceilings_are ls ∙ ap ceiling_rows e in
    rows_in-append (own_prices ls) _
    ∙ ap (λ (zs : List Row). rows_in (own_prices ls) ++ zs) (rows_in-append (floor_prices ls) _ ∙ ap (λ (zs : List Row). rows_in (floor_prices ls) ++ zs) (rows_in-append (ceiling_prices ls) _
    ∙ ap (λ (zs : List Row). rows_in (ceiling_prices ls) ++ (least_row i.heads_min ∷ most_row i.heads_max ∷ zs)) (cuts_are cuts xs h)))
    ∙ rw (a, b, c) refl

-- ---- sums over them
-- what a cell's rows bring to a sum
abbrev pub line_total : (RowPrice → ℤ) → CellLine → ℤ
line_total f l = f (at (cell_row l.cell) l.own) +ℤ cond (has_floor l.cell) (f (at (floor_row l.cell) l.floor)) (pos 0) +ℤ cond (has_ceiling l.cell) (f (at (ceiling_row l.cell) l.ceiling)) (pos 0)

one_or_none : (f : RowPrice → ℤ) (b : Bool) (x : RowPrice) (xs : List RowPrice) → sum_z f (cond b (x ∷ []) [] ++ xs) ≡ cond b (f x) (pos 0) +ℤ sum_z f xs
one_or_none f true x xs = refl
one_or_none f false x xs = omega (arith, ints)

lines_sum : (f : RowPrice → ℤ) (ls : List CellLine) → sum_z f (own_prices ls) +ℤ sum_z f (floor_prices ls) +ℤ sum_z f (ceiling_prices ls) ≡ sum_z (line_total f) ls
lines_sum f [] = refl
lines_sum f (l ∷ ls) =
    let a = one_or_none f (has_floor l.cell) (at (floor_row l.cell) l.floor) (floor_prices ls) in
    let b = one_or_none f (has_ceiling l.cell) (at (ceiling_row l.cell) l.ceiling) (ceiling_prices ls) in
    omega (arith, ints, lines_sum f ls)

pub built_sum : (f : RowPrice → ℤ) (i : Instance) (ls : List CellLine) (l m : ℤ) (cuts : List Cut) (xs : List ℤ)
    → sum_z f (built i ls l m cuts xs) ≡ sum_z (line_total f) ls +ℤ f (at (least_row i.heads_min) l) +ℤ f (at (most_row i.heads_max) m) +ℤ sum_z f (cut_numbers cuts xs)
built_sum f i ls l m cuts xs =
    let tail = at (least_row i.heads_min) l ∷ at (most_row i.heads_max) m ∷ cut_numbers cuts xs in
    let a = sum_z-append f (own_prices ls) (floor_prices ls ++ (ceiling_prices ls ++ tail)) in
    let b = sum_z-append f (floor_prices ls) (ceiling_prices ls ++ tail) in
    let c = sum_z-append f (ceiling_prices ls) tail in
    let d = lines_sum f ls in
    omega (arith, ints)

-- ---- what holds of each

-- what holds of each of a cell's rows
pub record OfLine (P : RowPrice → Type 0) (l : CellLine) : Type 0 where
  pub own : P (at (cell_row l.cell) l.own)
  pub floor : has_floor l.cell ≡ true → P (at (floor_row l.cell) l.floor)
  pub ceiling : has_ceiling l.cell ≡ true → P (at (ceiling_row l.cell) l.ceiling)

one_each : (P : RowPrice → Type 0) (b : Bool) (x : RowPrice) → (b ≡ true → P x) → Each P (cond b (x ∷ []) [])
one_each P true x h = (h refl, tt)
one_each P false x h = tt

each_one : (P : RowPrice → Type 0) (b : Bool) (x : RowPrice) → Each P (cond b (x ∷ []) []) → b ≡ true → P x
each_one P true x h e = h.0
each_one P false x h e = absurd (true≢false (sym e))

each_lines : (P : RowPrice → Type 0) (ls : List CellLine) → Each (OfLine P) ls → Each P (own_prices ls) × Each P (floor_prices ls) × Each P (ceiling_prices ls)
each_lines P [] h = (tt, tt, tt)
each_lines P (l ∷ ls) h =
    let more = each_lines P ls h.1 in (
      (h.0.own, more.0),
      Each-append P _ (floor_prices ls) (one_each P (has_floor l.cell) (at (floor_row l.cell) l.floor) h.0.floor) more.1,
      Each-append P _ (ceiling_prices ls) (one_each P (has_ceiling l.cell) (at (ceiling_row l.cell) l.ceiling) h.0.ceiling) more.2,
    )

lines_each : (P : RowPrice → Type 0) (ls : List CellLine) → Each P (own_prices ls) → Each P (floor_prices ls) → Each P (ceiling_prices ls) → Each (OfLine P) ls
lines_each P [] a b c = tt
lines_each P (l ∷ ls) a b c = (
  record {
    own = a.0;
    floor = each_one P (has_floor l.cell) (at (floor_row l.cell) l.floor) (Each-left P _ (floor_prices ls) b);
    ceiling = each_one P (has_ceiling l.cell) (at (ceiling_row l.cell) l.ceiling) (Each-left P _ (ceiling_prices ls) c);
  },
  lines_each P ls a.1 (Each-right P _ (floor_prices ls) b) (Each-right P _ (ceiling_prices ls) c),
)

pub record OfBuilt (P : RowPrice → Type 0) (i : Instance) (ls : List CellLine) (l m : ℤ) (cuts : List Cut) (xs : List ℤ) : Type 0 where
  pub lines : Each (OfLine P) ls
  pub least : P (at (least_row i.heads_min) l)
  pub most : P (at (most_row i.heads_max) m)
  pub numbered : Each P (cut_numbers cuts xs)

pub to_built : (P : RowPrice → Type 0) (i : Instance) (ls : List CellLine) (l m : ℤ) (cuts : List Cut) (xs : List ℤ) → OfBuilt P i ls l m cuts xs → Each P (built i ls l m cuts xs)
to_built P i ls l m cuts xs h =
    let a = each_lines P ls h.lines in
    Each-append P (own_prices ls) _ a.0 (Each-append P (floor_prices ls) _ a.1 (Each-append P (ceiling_prices ls) _ a.2 (h.least, (h.most, h.numbered))))

pub of_built : (P : RowPrice → Type 0) (i : Instance) (ls : List CellLine) (l m : ℤ) (cuts : List Cut) (xs : List ℤ) → Each P (built i ls l m cuts xs) → OfBuilt P i ls l m cuts xs
of_built P i ls l m cuts xs h =
    let a = Each-right P (own_prices ls) _ h in
    let b = Each-right P (floor_prices ls) _ a in
    let c = Each-right P (ceiling_prices ls) _ b in
    record {
      lines = lines_each P ls (Each-left P (own_prices ls) _ h) (Each-left P (floor_prices ls) _ a) (Each-left P (ceiling_prices ls) _ b);
      least = c.0;
      most = c.1.0;
      numbered = c.1.1;
    }

-- ---- the rows of a program with the prices from a list of numbers
priced-append : (y : ℕ → ℤ) (k : ℕ) (xs ys : List Row) → priced y k (xs ++ ys) ≡ priced y k xs ++ priced y (k + length xs) ys
priced-append y k [] ys = ap (λ j. priced y j ys) (omega arith)
priced-append y k (x ∷ xs) ys = ap (λ (zs : List RowPrice). at x (y k) ∷ zs) (priced-append y (suc k) xs ys ∙ ap (λ j. priced y (suc k) xs ++ priced y j ys) (omega arith))

module _ (y : ℕ → ℤ) where
  own_priced : (j f e : ℕ) (cs : List Cell) → priced y j (cell_rows cs) ≡ own_prices (lines_from y j f e cs)
  own_priced j f e [] = refl
  own_priced j f e (c ∷ cs) = ap (λ (zs : List RowPrice). at (cell_row c) (y j) ∷ zs) (own_priced (suc j) (f + cond (has_floor c) 1 0) (e + cond (has_ceiling c) 1 0) cs)

  floors_priced : (j f e : ℕ) (cs : List Cell) → priced y f (floor_rows cs) ≡ floor_prices (lines_from y j f e cs)
  floors_priced j f e [] = refl
  floors_priced j f e (c ∷ cs) = by (has_floor c) (floors_priced (suc j) (f + cond (has_floor c) 1 0) (e + cond (has_ceiling c) 1 0) cs)
    where
      by : (b : Bool) → priced y (f + cond b 1 0) (floor_rows cs) ≡ floor_prices (lines_from y (suc j) (f + cond b 1 0) (e + cond (has_ceiling c) 1 0) cs)
          → priced y f (cond b (floor_row c ∷ []) [] ++ floor_rows cs) ≡ cond b (at (floor_row c) (cond b (y f) (pos 0)) ∷ []) [] ++ floor_prices (lines_from y (suc j) (f + cond b 1 0) (e + cond (has_ceiling c) 1 0) cs)
      by true h = ap (λ (zs : List RowPrice). at (floor_row c) (y f) ∷ zs) (ap (λ k. priced y k (floor_rows cs)) (omega arith) ∙ h)
      by false h = ap (λ k. priced y k (floor_rows cs)) (omega arith) ∙ h

  ceilings_priced : (j f e : ℕ) (cs : List Cell) → priced y e (ceiling_rows cs) ≡ ceiling_prices (lines_from y j f e cs)
  ceilings_priced j f e [] = refl
  ceilings_priced j f e (c ∷ cs) = by (has_ceiling c) (ceilings_priced (suc j) (f + cond (has_floor c) 1 0) (e + cond (has_ceiling c) 1 0) cs)
    where
      by : (b : Bool) → priced y (e + cond b 1 0) (ceiling_rows cs) ≡ ceiling_prices (lines_from y (suc j) (f + cond (has_floor c) 1 0) (e + cond b 1 0) cs)
          → priced y e (cond b (ceiling_row c ∷ []) [] ++ ceiling_rows cs) ≡ cond b (at (ceiling_row c) (cond b (y e) (pos 0)) ∷ []) [] ++ ceiling_prices (lines_from y (suc j) (f + cond (has_floor c) 1 0) (e + cond b 1 0) cs)
      by true h = ap (λ (zs : List RowPrice). at (ceiling_row c) (y e) ∷ zs) (ap (λ k. priced y k (ceiling_rows cs)) (omega arith) ∙ h)
      by false h = ap (λ k. priced y k (ceiling_rows cs)) (omega arith) ∙ h

  cuts_paid : (k : ℕ) (cuts : List Cut) → priced y k (cut_rows cuts) ≡ cut_numbers cuts (numbers_from y k cuts)
  cuts_paid k [] = refl
  cuts_paid k (c ∷ cs) = ap (λ (zs : List RowPrice). at (cut_row c) (y k) ∷ zs) (cuts_paid (suc k) cs)

  length-cell_rows : (cs : List Cell) → length (cell_rows cs) ≡ length cs
  length-cell_rows [] = refl
  length-cell_rows (c ∷ cs) = omega (arith, length-cell_rows cs)

  pub priced_built : (i : Instance) (cuts : List Cut) → priced y 0 (rows_of i cuts) ≡ built i (cell_lines i y) (y (first_head i)) (y (first_head i + 1)) cuts (numbers_from y (first_head i + 2) cuts)
  priced_built i cuts =
      let tail = least_row i.heads_min ∷ most_row i.heads_max ∷ cut_rows cuts in
      let n : 0 + length (cell_rows i.cells) ≡ length i.cells = omega (arith, length-cell_rows i.cells) in
      let a = priced-append y 0 (cell_rows i.cells) (floor_rows i.cells ++ (ceiling_rows i.cells ++ tail)) in
      let b = priced-append y (length i.cells) (floor_rows i.cells) (ceiling_rows i.cells ++ tail) in
      let c = priced-append y (first_ceiling i) (ceiling_rows i.cells) tail in
      let own = own_priced 0 (length i.cells) (first_ceiling i) i.cells in
      let floors = floors_priced 0 (length i.cells) (first_ceiling i) i.cells in
      let ceilings = ceilings_priced 0 (length i.cells) (first_ceiling i) i.cells in
      let one : suc (first_head i) ≡ first_head i + 1 = omega arith in
      let two : suc (suc (first_head i)) ≡ first_head i + 2 = omega arith in
      let ends : priced y (first_head i) tail ≡ at (least_row i.heads_min) (y (first_head i)) ∷ at (most_row i.heads_max) (y (first_head i + 1)) ∷ cut_numbers cuts (numbers_from y (first_head i + 2) cuts) =
      ap (λ k. at (least_row i.heads_min) (y (first_head i)) ∷ at (most_row i.heads_max) (y k) ∷ priced y (suc (suc (first_head i))) (cut_rows cuts)) one
      ∙ ap (λ k. at (least_row i.heads_min) (y (first_head i)) ∷ at (most_row i.heads_max) (y (first_head i + 1)) ∷ priced y k (cut_rows cuts)) two
      ∙ ap (λ (zs : List RowPrice). at (least_row i.heads_min) (y (first_head i)) ∷ at (most_row i.heads_max) (y (first_head i + 1)) ∷ zs) (cuts_paid (first_head i + 2) cuts) in
      a
      ∙ ap (λ (zs : List RowPrice). zs ++ priced y (0 + length (cell_rows i.cells)) (floor_rows i.cells ++ (ceiling_rows i.cells ++ tail))) own
      ∙ ap (λ (zs : List RowPrice). own_prices (cell_lines i y) ++ zs) (ap (λ k. priced y k (floor_rows i.cells ++ (ceiling_rows i.cells ++ tail))) n ∙ b
      ∙ ap (λ (zs : List RowPrice). zs ++ priced y (first_ceiling i) (ceiling_rows i.cells ++ tail)) floors
      ∙ ap (λ (zs : List RowPrice). floor_prices (cell_lines i y) ++ zs) (c
      ∙ ap (λ (zs : List RowPrice). zs ++ priced y (first_head i) tail) ceilings
      ∙ ap (λ (zs : List RowPrice). ceiling_prices (cell_lines i y) ++ zs) ends))

  pub cells_of-lines : (j f e : ℕ) (cs : List Cell) → cells_of (lines_from y j f e cs) ≡ cs
  cells_of-lines j f e [] = refl
  cells_of-lines j f e (c ∷ cs) = ap (λ (zs : List Cell). c ∷ zs) (cells_of-lines (suc j) (f + cond (has_floor c) 1 0) (e + cond (has_ceiling c) 1 0) cs)

  pub numbers_many : (k : ℕ) (cuts : List Cut) → AreMany cuts (numbers_from y k cuts)
  numbers_many k [] = tt
  numbers_many k (c ∷ cs) = numbers_many (suc k) cs
