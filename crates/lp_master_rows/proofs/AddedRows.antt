-- Rows that are added one after another.
use Rattle.std.proofs.Common.{◌≡◌, ℕ, ℤ, arith, pos, ◌+◌, ◌<◌, ◌≤◌, Bool, true, false, cond, Some, None, List, [], ◌∷◌, ◌++◌, length, take, get_or, sym, ap, ◌∙◌, refl, take-suc, append_assoc, append-nil, length-append, length-take-le, add-one, add-zero}
use Rattle.model_rosters.specs.declared.instance.Cell.{Cell}
use Rattle.model_rosters.specs.declared.instance.Cut.{Cut}
use Rattle.law_bounds.specs.master_laws.Rows.{Row, floor_rows, ceiling_rows, cut_rows, has_floor, has_ceiling, floor_row, ceiling_row}
use Rattle.lp_master_rows.specs.declared.rows.NodeRows.{NodeRows}
use Rattle.lp_master_rows.specs.declared.rows.BoundRows.{BoundRows}
use Rattle.lp_master_rows.specs.declared.building.Kind.{Kind}
use Rattle.lp_master_rows.specs.NodeRows.{right_sides, senses_of, letters_of, kind_row, kind_rows, kind_cell, kind_cells, bounds_from, with_rows}

pub rights-append : (xs ys : List Row) → right_sides (xs ++ ys) ≡ right_sides xs ++ right_sides ys
rights-append [] ys = refl
rights-append (x ∷ xs) ys = ap (λ (zs : List ℤ). pos x.right ∷ zs) (rights-append xs ys)

pub senses-append : (xs ys : List Row) → senses_of (xs ++ ys) ≡ senses_of xs ++ senses_of ys
senses-append [] ys = refl
senses-append (x ∷ xs) ys = rw (senses-append xs ys) refl

pub letters-append : (xs ys : List Cell) → letters_of (xs ++ ys) ≡ letters_of xs ++ letters_of ys
letters-append [] ys = refl
letters-append (x ∷ xs) ys = rw (letters-append xs ys) refl

pub kind_rows-append : (k : Kind) (xs ys : List Cell) → kind_rows k (xs ++ ys) ≡ kind_rows k xs ++ kind_rows k ys
kind_rows-append k [] ys = refl
kind_rows-append k (x ∷ xs) ys = rw (kind_rows-append k xs ys) (sym (append_assoc (kind_row k x) (kind_rows k xs) (kind_rows k ys)))

pub kind_cells-append : (k : Kind) (xs ys : List Cell) → kind_cells k (xs ++ ys) ≡ kind_cells k xs ++ kind_cells k ys
kind_cells-append k [] ys = refl
kind_cells-append k (x ∷ xs) ys = rw (kind_cells-append k xs ys) (sym (append_assoc (kind_cell k x) (kind_cells k xs) (kind_cells k ys)))

cut_rows-append : (xs ys : List Cut) → cut_rows (xs ++ ys) ≡ cut_rows xs ++ cut_rows ys
cut_rows-append [] ys = refl
cut_rows-append (x ∷ xs) ys = rw (cut_rows-append xs ys) refl

pub joined : (rows : NodeRows) (cs ds : List Cell) (xs ys : List Row) → with_rows (with_rows rows cs xs) ds ys ≡ with_rows rows (cs ++ ds) (xs ++ ys)
joined rows cs ds xs ys = simp (rights-append, senses-append, letters-append, append_assoc)

pub none_added : (rows : NodeRows) → with_rows rows [] [] ≡ rows
none_added rows = simp append-nil

-- the rows of the first k cells, and those of one more
pub cells_step : (rows old new : NodeRows) (kind : Kind) (cells : List Cell) (k : ℕ) (d : Cell) → k < length cells
    → old ≡ with_rows rows (kind_cells kind (take k cells)) (kind_rows kind (take k cells)) → new ≡ with_rows old (kind_cell kind (get_or cells k d)) (kind_row kind (get_or cells k d))
    → new ≡ with_rows rows (kind_cells kind (take (k + 1) cells)) (kind_rows kind (take (k + 1) cells))
cells_step rows old new kind cells k d l p q =
    let c = get_or cells k d in
    let a : kind_cells kind (take (k + 1) cells) ≡ kind_cells kind (take k cells) ++ kind_cell kind c = rw (add-one k, take-suc cells k d l, kind_cells-append kind (take k cells) (c ∷ []), append-nil (kind_cell kind c)) refl in
    let b : kind_rows kind (take (k + 1) cells) ≡ kind_rows kind (take k cells) ++ kind_row kind c = rw (add-one k, take-suc cells k d l, kind_rows-append kind (take k cells) (c ∷ []), append-nil (kind_row kind c)) refl in
    q ∙ ap (λ (o : NodeRows). with_rows o (kind_cell kind c) (kind_row kind c)) p ∙ rw (a, b) (joined rows (kind_cells kind (take k cells)) (kind_cell kind c) (kind_rows kind (take k cells)) (kind_row kind c))

pub cuts_step : (rows old new : NodeRows) (cuts : List Cut) (k : ℕ) (d : Cut) → k < length cuts
    → old ≡ with_rows rows [] (cut_rows (take k cuts)) → new ≡ with_rows old [] (cut_rows (get_or cuts k d ∷ []))
    → new ≡ with_rows rows [] (cut_rows (take (k + 1) cuts))
cuts_step rows old new cuts k d l p q =
    let c = get_or cuts k d in
    let b : cut_rows (take (k + 1) cuts) ≡ cut_rows (take k cuts) ++ cut_rows (c ∷ []) = rw (add-one k, take-suc cuts k d l) (cut_rows-append (take k cuts) (c ∷ [])) in
    q ∙ ap (λ (o : NodeRows). with_rows o [] (cut_rows (c ∷ []))) p ∙ rw b (joined rows [] [] (cut_rows (take k cuts)) (cut_rows (c ∷ [])))

-- ---- how many rows of floors and ceilings there are
pub floors-append : (xs ys : List Cell) → length (floor_rows (xs ++ ys)) ≡ length (floor_rows xs) + length (floor_rows ys)
floors-append [] ys = omega arith
floors-append (x ∷ xs) ys = simp length-append (omega (arith, floors-append xs ys))

pub ceilings-append : (xs ys : List Cell) → length (ceiling_rows (xs ++ ys)) ≡ length (ceiling_rows xs) + length (ceiling_rows ys)
ceilings-append [] ys = omega arith
ceilings-append (x ∷ xs) ys = simp length-append (omega (arith, ceilings-append xs ys))

one_floor : (c : Cell) (rest : List Row) → length (cond (has_floor c) (floor_row c ∷ []) [] ++ rest) ≡ cond (has_floor c) 1 0 + length rest
one_floor c rest = by (has_floor c)
  where
    by : (b : Bool) → length (cond b (floor_row c ∷ []) [] ++ rest) ≡ cond b 1 0 + length rest
    by true = omega arith
    by false = omega arith

one_ceiling : (c : Cell) (rest : List Row) → length (cond (has_ceiling c) (ceiling_row c ∷ []) [] ++ rest) ≡ cond (has_ceiling c) 1 0 + length rest
one_ceiling c rest = by (has_ceiling c)
  where
    by : (b : Bool) → length (cond b (ceiling_row c ∷ []) [] ++ rest) ≡ cond b 1 0 + length rest
    by true = omega arith
    by false = omega arith

small : (b : Bool) → ◌≤◌ (cond b 1 0) 1
small true = omega arith
small false = omega arith

pub floors-le : (cs : List Cell) → length (floor_rows cs) ≤ length cs
floors-le [] = omega arith
floors-le (c ∷ cs) = omega (arith, one_floor c (floor_rows cs), small (has_floor c), floors-le cs)

pub ceilings-le : (cs : List Cell) → length (ceiling_rows cs) ≤ length cs
ceilings-le [] = omega arith
ceilings-le (c ∷ cs) = omega (arith, one_ceiling c (ceiling_rows cs), small (has_ceiling c), ceilings-le cs)

-- ---- where they stand
bounds-append : (f e : ℕ) (xs ys : List Cell) → bounds_from f e (xs ++ ys) ≡ bounds_from f e xs ++ bounds_from (f + length (floor_rows xs)) (e + length (ceiling_rows xs)) ys
bounds-append f e [] ys = rw (add-zero f, add-zero e) refl
bounds-append f e (x ∷ xs) ys =
    let p : f + cond (has_floor x) 1 0 + length (floor_rows xs) ≡ f + length (floor_rows (x ∷ xs)) = omega (arith, one_floor x (floor_rows xs)) in
    let q : e + cond (has_ceiling x) 1 0 + length (ceiling_rows xs) ≡ e + length (ceiling_rows (x ∷ xs)) = omega (arith, one_ceiling x (ceiling_rows xs)) in
    rw (bounds-append (f + cond (has_floor x) 1 0) (e + cond (has_ceiling x) 1 0) xs ys, p, q) refl

pub bounds_step : (f e : ℕ) (cells : List Cell) (k : ℕ) (d : Cell) (b : BoundRows) → k < length cells
    → b.floor ≡ cond (has_floor (get_or cells k d)) (Some (f + length (floor_rows (take k cells)))) None → b.ceiling ≡ cond (has_ceiling (get_or cells k d)) (Some (e + length (ceiling_rows (take k cells)))) None
    → bounds_from f e (take (k + 1) cells) ≡ bounds_from f e (take k cells) ++ b ∷ []
bounds_step f e cells k d b l p q = rw (add-one k, take-suc cells k d l, bounds-append f e (take k cells) (get_or cells k d ∷ []), ← p, ← q) refl

pub floors_step : (cells : List Cell) (k : ℕ) (d : Cell) → k < length cells → length (floor_rows (take (k + 1) cells)) ≡ length (floor_rows (take k cells)) + cond (has_floor (get_or cells k d)) 1 0
floors_step cells k d l = rw (add-one k, take-suc cells k d l, floors-append (take k cells) (get_or cells k d ∷ [])) (omega (arith, one_floor (get_or cells k d) []))

pub ceilings_step : (cells : List Cell) (k : ℕ) (d : Cell) → k < length cells → length (ceiling_rows (take (k + 1) cells)) ≡ length (ceiling_rows (take k cells)) + cond (has_ceiling (get_or cells k d)) 1 0
ceilings_step cells k d l = rw (add-one k, take-suc cells k d l, ceilings-append (take k cells) (get_or cells k d ∷ [])) (omega (arith, one_ceiling (get_or cells k d) []))

pub floors_before : (cells : List Cell) (k : ℕ) → k ≤ length cells → length (floor_rows (take k cells)) ≤ k
floors_before cells k l = omega (arith, floors-le (take k cells), length-take-le k cells l)

pub ceilings_before : (cells : List Cell) (k : ℕ) → k ≤ length cells → length (ceiling_rows (take k cells)) ≤ k
ceilings_before cells k l = omega (arith, ceilings-le (take k cells), length-take-le k cells l)

-- the loop over the cells: where the rows of one cell more stand
pub bounds_more : (rows old : NodeRows) (bs : List BoundRows) (f e : ℕ) (cells : List Cell) (k : ℕ) (d : Cell) (b : BoundRows) (fl ce nf ne : ℕ) → k < length cells
    → old ≡ record rows { bounds = rows.bounds ++ bounds_from f e (take k cells) }
    → fl ≡ f + length (floor_rows (take k cells)) → ce ≡ e + length (ceiling_rows (take k cells))
    → b.floor ≡ cond (has_floor (get_or cells k d)) (Some fl) None → b.ceiling ≡ cond (has_ceiling (get_or cells k d)) (Some ce) None
    → bs ≡ old.bounds ++ b ∷ [] → nf ≡ cond (has_floor (get_or cells k d)) 1 0 → ne ≡ cond (has_ceiling (get_or cells k d)) 1 0
    → (record old { bounds = bs } ≡ record rows { bounds = rows.bounds ++ bounds_from f e (take (k + 1) cells) })
    × (fl + nf ≡ f + length (floor_rows (take (k + 1) cells))) × (ce + ne ≡ e + length (ceiling_rows (take (k + 1) cells)))
bounds_more rows old bs f e cells k d b fl ce nf ne l is fl_is ce_is bf bc pushed nf_is ne_is =
    let step = bounds_step f e cells k d b l (rw fl_is at bf) (rw ce_is at bc) in
    let all : bs ≡ rows.bounds ++ bounds_from f e (take (k + 1) cells) =
    pushed ∙ ap (λ (o : NodeRows). o.bounds ++ b ∷ []) is ∙ append_assoc rows.bounds (bounds_from f e (take k cells)) (b ∷ []) ∙ ap (λ (x : List BoundRows). rows.bounds ++ x) (sym step) in (
      ap (λ (o : NodeRows). record o { bounds = bs }) is ∙ ap (λ (x : List BoundRows). record rows { bounds = x }) all,
      omega (arith, floors_step cells k d l, fl_is, nf_is),
      omega (arith, ceilings_step cells k d l, ce_is, ne_is),
    )
