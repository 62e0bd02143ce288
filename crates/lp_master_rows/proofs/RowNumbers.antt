-- The rows of a master as lists of numbers.
use Rattle.std.proofs.Common.{◌≡◌, ℕ, ℤ, zero, suc, arith, pos, ◌+◌, ◌<◌, Bool, true, false, cond, Option, IfSome, IfNone, List, [], ◌∷◌, ◌++◌, length, get_or, sym, ap, ◌∙◌, subst, refl, length-append}
use Rattle.std.proofs.lemmas.List.Recursion.{is_count_by}
use Rattle.std.specs.List.{count_by}
use Rattle.model_rosters.specs.declared.instance.Cell.{Cell}
use Rattle.model_rosters.specs.declared.instance.Cut.{Cut}
use Rattle.model_rosters.specs.declared.instance.Instance.{Instance}
use Rattle.lp_fractions.specs.Row.{at}
use Rattle.law_bounds.specs.master_laws.Rows.{Row, Sense as RowSense, about, at_least, at_most, number_at, HoldsAt, rows_of, cell_rows, floor_rows, ceiling_rows, has_floor, has_ceiling, floor_row, ceiling_row}
use Rattle.law_bounds.specs.master_laws.Master.{missing_cost, beyond_cost, has_beyond, HasBeyond}
use Rattle.law_bounds.specs.master_laws.Rounding.{first_ceiling, first_head}
use Rattle.law_bounds.proofs.master_laws.RowSizes.{length-cell_rows}
use Rattle.lp_master_rows.specs.declared.rows.NodeRows.{NodeRows}
use Rattle.lp_master_rows.specs.declared.building.Kind.{Kind}
use Rattle.lp_master_rows.specs.declared.building.Kind.TheVariants.{Need, Floor, Ceiling}
use Rattle.lp_master_rows.specs.declared.sense.Sense.{Sense}
use Rattle.lp_master_rows.specs.NodeRows.{right_sides, senses_of, sense_of, letters_of, kind_row, kind_rows, kind_cell, kind_cells, row_cells, missing_price, beyond_price, AreRows}

-- ---- right sides and costs
pub rights_length : (xs : List Row) → length (right_sides xs) ≡ length xs
rights_length [] = refl
rights_length (x ∷ xs) = ap suc (rights_length xs)

pub senses_length : (xs : List Row) → length (senses_of xs) ≡ length xs
senses_length [] = refl
senses_length (x ∷ xs) = ap suc (senses_length xs)

pub right_at : (xs : List Row) (r : ℕ) → r < length xs → at (right_sides xs) r ≡ number_at (λ (x : Row). pos x.right) xs r
right_at [] r l = absurd (omega arith)
right_at (x ∷ xs) zero l = refl
right_at (x ∷ xs) (suc r) l = right_at xs r (omega arith)

missing_of : (k : ℕ) (s : RowSense) → missing_price (pos k) (sense_of s) ≡ pos (missing_cost k s)
missing_of k (about under over) = refl
missing_of k at_least = refl
missing_of k at_most = refl

pub missing_at : (k : ℕ) (xs : List Row) (r : ℕ) (d : Sense) → r < length xs
    → missing_price (pos k) (get_or (senses_of xs) r d) ≡ number_at (λ (x : Row). pos (missing_cost k x.sense)) xs r
missing_at k [] r d l = absurd (omega arith)
missing_at k (x ∷ xs) zero d l = missing_of k x.sense
missing_at k (x ∷ xs) (suc r) d l = missing_at k xs r d (omega arith)

abbrev TellsBeyond : List Row → ℕ → Option ℤ → Type 0
TellsBeyond xs r o = IfSome o (λ c. HoldsAt HasBeyond xs r × (c ≡ number_at (λ (x : Row). pos (beyond_cost x.sense)) xs r))

beyond_some : (x : Row) (xs : List Row) (s : RowSense) → x.sense ≡ s → IfSome (beyond_price (sense_of s)) (λ c. (has_beyond s ≡ true) × (c ≡ pos (beyond_cost s)))
beyond_some x xs (about under over) e = (refl, refl)
beyond_some x xs at_least e = (refl, refl)
beyond_some x xs at_most e = tt

pub some_beyond : (xs : List Row) (r : ℕ) (d : Sense) → r < length xs → TellsBeyond xs r (beyond_price (get_or (senses_of xs) r d))
some_beyond [] r d l = absurd (omega arith)
some_beyond (x ∷ xs) zero d l = beyond_some x xs x.sense refl
some_beyond (x ∷ xs) (suc r) d l = some_beyond xs r d (omega arith)

beyond_none : (s : RowSense) → IfNone (beyond_price (sense_of s)) (has_beyond s ≡ true → ⊥)
beyond_none (about under over) = tt
beyond_none at_least = tt
beyond_none at_most = λ e. cc

pub no_beyond : (xs : List Row) (r : ℕ) (d : Sense) → r < length xs → IfNone (beyond_price (get_or (senses_of xs) r d)) (HoldsAt HasBeyond xs r → ⊥)
no_beyond [] r d l = absurd (omega arith)
no_beyond (x ∷ xs) zero d l = beyond_none x.sense
no_beyond (x ∷ xs) (suc r) d l = no_beyond xs r d (omega arith)

-- ---- how many rows there are
counted : (p : Cell → Bool) (x : Cell) (row : Cell → Row) (xs : List Row) → length (cond (p x) (row x ∷ []) [] ++ xs) ≡ cond (p x) (1 + length xs) (length xs)
counted p x row xs = by (p x)
  where
    by : (b : Bool) → length (cond b (row x ∷ []) [] ++ xs) ≡ cond b (1 + length xs) (length xs)
    by true = omega arith
    by false = refl

pub floors_counted : (cells : List Cell) → length (floor_rows cells) ≡ count_by has_floor cells
floors_counted cells = is_count_by (λ (cs : List Cell). length (floor_rows cs)) has_floor refl (λ x xs. counted has_floor x floor_row (floor_rows xs)) cells

pub ceilings_counted : (cells : List Cell) → length (ceiling_rows cells) ≡ count_by has_ceiling cells
ceilings_counted cells = is_count_by (λ (cs : List Cell). length (ceiling_rows cs)) has_ceiling refl (λ x xs. counted has_ceiling x ceiling_row (ceiling_rows xs)) cells

-- ---- rows of a kind
pub needs_are : (cs : List Cell) → kind_rows Need cs ≡ cell_rows cs
needs_are [] = refl
needs_are (c ∷ cs) = rw (needs_are cs) refl

pub floors_are : (cs : List Cell) → kind_rows Floor cs ≡ floor_rows cs
floors_are [] = refl
floors_are (c ∷ cs) = rw (floors_are cs) refl

pub ceilings_are : (cs : List Cell) → kind_rows Ceiling cs ≡ ceiling_rows cs
ceilings_are [] = refl
ceilings_are (c ∷ cs) = rw (ceilings_are cs) refl

one_each : (k : Kind) (c : Cell) → length (kind_cell k c) ≡ length (kind_row k c)
one_each Need c = refl
one_each Floor c = by (has_floor c)
  where
    by : (b : Bool) → length (cond b (c ∷ []) []) ≡ length (cond b (floor_row c ∷ []) [])
    by true = refl
    by false = refl
one_each Ceiling c = by (has_ceiling c)
  where
    by : (b : Bool) → length (cond b (c ∷ []) []) ≡ length (cond b (ceiling_row c ∷ []) [])
    by true = refl
    by false = refl

pub kinds_length : (k : Kind) (cs : List Cell) → length (kind_cells k cs) ≡ length (kind_rows k cs)
kinds_length k [] = refl
kinds_length k (c ∷ cs) = omega (arith, length-append (kind_cell k c) (kind_cells k cs), length-append (kind_row k c) (kind_rows k cs), one_each k c, kinds_length k cs)

pub letters_length : (cs : List Cell) → length (letters_of cs) ≡ length cs
letters_length [] = refl
letters_length (c ∷ cs) = ap suc (letters_length cs)

needs_length : (cs : List Cell) → length (kind_cells Need cs) ≡ length cs
needs_length cs = kinds_length Need cs ∙ ap length (needs_are cs) ∙ length-cell_rows cs

floors_length : (cs : List Cell) → length (kind_cells Floor cs) ≡ length (floor_rows cs)
floors_length cs = kinds_length Floor cs ∙ ap length (floors_are cs)

ceilings_length : (cs : List Cell) → length (kind_cells Ceiling cs) ≡ length (ceiling_rows cs)
ceilings_length cs = kinds_length Ceiling cs ∙ ap length (ceilings_are cs)

pub ceilings_begin : (i : Instance) → length (letters_of (kind_cells Need i.cells ++ kind_cells Floor i.cells)) ≡ first_ceiling i
ceilings_begin i = letters_length _ ∙ omega (arith, length-append (kind_cells Need i.cells) (kind_cells Floor i.cells), needs_length i.cells, floors_length i.cells)

pub heads_begin : (i : Instance) → length (letters_of (row_cells i.cells)) ≡ first_head i
heads_begin i =
    letters_length (row_cells i.cells)
    ∙ omega (arith, length-append (kind_cells Need i.cells) (kind_cells Floor i.cells ++ kind_cells Ceiling i.cells), length-append (kind_cells Floor i.cells) (kind_cells Ceiling i.cells), needs_length i.cells, floors_length i.cells, ceilings_length i.cells)

-- ---- what the senses of a node's rows tell
module _ (i : Instance) (cuts : List Cut) (rows : NodeRows) (xs : List Sense) (are : AreRows i cuts rows) (is : xs ≡ rows.senses) where
  all : xs ≡ senses_of (rows_of i cuts)
  all = is ∙ are.senses

  pub as_many : length xs ≡ length (rows_of i cuts)
  as_many = ap length all ∙ senses_length (rows_of i cuts)

  module _ (r : ℕ) (d : Sense) (l : r < length xs) where
    below : r < length (rows_of i cuts)
    below = omega (arith, as_many)

    pub missing_told : (k : ℕ) (a z : ℤ) → a ≡ pos k → z ≡ missing_price a (get_or xs r d) → z ≡ number_at (λ (x : Row). pos (missing_cost k x.sense)) (rows_of i cuts) r
    missing_told k a z e q =
        q ∙ ap (λ (b : ℤ). missing_price b (get_or xs r d)) e ∙ ap (λ (ys : List Sense). missing_price (pos k) (get_or ys r d)) all ∙ missing_at k (rows_of i cuts) r d below

    same : (o : Option ℤ) → o ≡ beyond_price (get_or xs r d) → o ≡ beyond_price (get_or (senses_of (rows_of i cuts)) r d)
    same o q = q ∙ ap (λ (ys : List Sense). beyond_price (get_or ys r d)) all

    pub some_told : (o : Option ℤ) → o ≡ beyond_price (get_or xs r d) → TellsBeyond (rows_of i cuts) r o
    some_told o q = subst (TellsBeyond (rows_of i cuts) r) (sym (same o q)) (some_beyond (rows_of i cuts) r d below)

    pub none_told : (o : Option ℤ) → o ≡ beyond_price (get_or xs r d) → IfNone o (HoldsAt HasBeyond (rows_of i cuts) r → ⊥)
    none_told o q = subst (λ (p : Option ℤ). IfNone p (HoldsAt HasBeyond (rows_of i cuts) r → ⊥)) (sym (same o q)) (no_beyond (rows_of i cuts) r d below)
