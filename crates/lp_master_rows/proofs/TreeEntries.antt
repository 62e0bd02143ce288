-- What a tree brings to each row of a node.
use Rattle.std.proofs.Common.{◌≡◌, ℕ, ℤ, zero, suc, arith, pos, ◌+◌, ◌≤◌, Bool, true, false, cond, Some, List, [], ◌∷◌, ◌++◌, length, sym, ap, ◌∙◌, refl, append_assoc, length-append}
use Rattle.std.specs.Prelude.{slice_get, nat_lt}
use Rattle.std.proofs.lemmas.Option.{same_Some, none-some}
use Rattle.model_rosters.specs.declared.grammar.ArcKey.{ArcKey}
use Rattle.model_rosters.specs.declared.instance.Cell.{Cell}
use Rattle.model_rosters.specs.declared.instance.Cut.{Cut}
use Rattle.model_rosters.specs.declared.instance.Side.{Side}
use Rattle.model_rosters.specs.declared.instance.Side.TheVariants.{Low, High}
use Rattle.model_rosters.specs.declared.instance.Instance.{Instance}
use Rattle.model_rosters.specs.Trees.{Parts}
use Rattle.model_rosters.specs.Folds.{count}
use Rattle.model_rosters.specs.Arcs.{Letter, letters, same_arc}
use Rattle.model_rosters.proofs.arc_laws.Totals.{arc_once}
use Rattle.law_bounds.specs.master_laws.Rows.{Row, number_at, rows_of, cell_rows, floor_rows, ceiling_rows, cut_rows, side_row, least_row, most_row, floor_row, ceiling_row, has_floor, has_ceiling, cell_count, tree_arcs}
use Rattle.law_bounds.specs.master_laws.Rounding.{first_head}
use Rattle.law_bounds.proofs.master_laws.RowSizes.{row_count, length-cell_rows}
use Rattle.lp_fractions.specs.pivot_rows.Columns.{IsColumn}
use Rattle.tree_pool.specs.Pools.{PoolTree, IsPoolTree, letters_from}
use Rattle.lp_master_rows.specs.declared.rows.NodeRows.{NodeRows}
use Rattle.lp_master_rows.specs.declared.rows.CellLetter.{CellLetter}
use Rattle.lp_master_rows.specs.declared.entries.Entries.{Entries}
use Rattle.lp_master_rows.specs.declared.building.Kind.{Kind}
use Rattle.lp_master_rows.specs.declared.building.Kind.TheVariants.{Need, Floor, Ceiling}
use Rattle.lp_master_rows.specs.NodeRows.{is_letter, letter_of, letters_of, kind_row, kind_rows, kind_cell, kind_cells, row_cells, AreRows}
use Rattle.lp_master_rows.specs.Entries.{with_entry, AreListed}
use Rattle.lp_master_rows.proofs.EntriesLemmas.{listed_0, listed_step}
use Rattle.lp_master_rows.proofs.RowNumbers.{needs_are, floors_are, ceilings_are, heads_begin}

-- what a tree brings to row r
abbrev pub brought : Parts → List Row → ℕ → ℤ
brought t = number_at (λ (r : Row). pos (r.brings t))

-- to each row a tree brings the letter of its cell
abbrev Brings : List Cell → List Row → Type 0
Brings [] [] = Unit {0}
Brings (c ∷ cs) (x ∷ xs) = ((t : Parts) → x.brings t ≡ cell_count c t) × Brings cs xs
Brings [] (x ∷ xs) = ⊥
Brings (c ∷ cs) [] = ⊥

brings-append : (cs ds : List Cell) (xs ys : List Row) → Brings cs xs → Brings ds ys → Brings (cs ++ ds) (xs ++ ys)
brings-append [] ds [] ys h k = k
brings-append (c ∷ cs) ds (x ∷ xs) ys h k = (h.0, brings-append cs ds xs ys h.1 k)
brings-append [] ds (x ∷ xs) ys h k = absurd h
brings-append (c ∷ cs) ds [] ys h k = absurd h

brings_one : (k : Kind) (c : Cell) → Brings (kind_cell k c) (kind_row k c)
brings_one Need c = (λ t. refl, tt)
brings_one Floor c = by (has_floor c)
  where
    by : (b : Bool) → Brings (cond b (c ∷ []) []) (cond b (floor_row c ∷ []) [])
    by true = (λ t. refl, tt)
    by false = tt
brings_one Ceiling c = by (has_ceiling c)
  where
    by : (b : Bool) → Brings (cond b (c ∷ []) []) (cond b (ceiling_row c ∷ []) [])
    by true = (λ t. refl, tt)
    by false = tt

brings_kind : (k : Kind) (cs : List Cell) → Brings (kind_cells k cs) (kind_rows k cs)
brings_kind k [] = tt
brings_kind k (c ∷ cs) = brings-append (kind_cell k c) (kind_cells k cs) (kind_row k c) (kind_rows k cs) (brings_one k c) (brings_kind k cs)

brought_letter : (cs : List Cell) (xs rest : List Row) (k : ℕ) (l : CellLetter) (t : Parts) → Brings cs xs → slice_get (letters_of cs) k ≡ Some l
    → brought t (xs ++ rest) k ≡ pos (count (is_letter l) (letters 1 t))
brought_letter [] [] rest k l t h e = absurd (none-some l e)
brought_letter (c ∷ cs) (x ∷ xs) rest zero l t h e =
    ap pos (h.0 t) ∙ ap (λ (m : CellLetter). pos (count (is_letter m) (letters 1 t))) (same_Some (letter_of c) l e)
brought_letter (c ∷ cs) (x ∷ xs) rest (suc k) l t h e = brought_letter cs xs rest k l t h.1 e
brought_letter [] (x ∷ xs) rest k l t h e = absurd h
brought_letter (c ∷ cs) [] rest k l t h e = absurd h

-- ---- rows that come after others
number_after : (f : Row → ℤ) (xs ys : List Row) (r j : ℕ) → r ≡ length xs + j → number_at f (xs ++ ys) r ≡ number_at f ys j
number_after f [] ys r j e = ap (λ n. number_at f ys n) (e ∙ omega arith)
number_after f (x ∷ xs) ys zero j e = absurd (omega (arith, e))
number_after f (x ∷ xs) ys (suc r) j e = number_after f xs ys r j (omega (arith, e))

brought_arc : (s : Side) (b : ℕ) (a : ArcKey) (t : Parts) → (side_row s b a).brings t ≡ tree_arcs a t
brought_arc Low b a t = refl
brought_arc High b a t = refl

brought_cut : (cuts : List Cut) (j : ℕ) (c : Cut) (t : Parts) → slice_get cuts j ≡ Some c → brought t (cut_rows cuts) j ≡ pos (tree_arcs c.arc t)
brought_cut [] j c t e = absurd (none-some c e)
brought_cut (d ∷ cuts) zero c t e = ap pos (brought_arc d.side d.b d.arc t) ∙ ap (λ (x : Cut). pos (tree_arcs x.arc t)) (same_Some d c e)
brought_cut (d ∷ cuts) (suc j) c t e = brought_cut cuts j c t e

one_or_none : (n : ℕ) → n ≤ 1 → n ≡ cond (nat_lt 0 n) 1 0
one_or_none zero l = refl
one_or_none (suc zero) l = refl
one_or_none (suc (suc n)) l = absurd (omega arith)

-- ---- the rows of a node
module _ (i : Instance) (cuts : List Cut) (rows : NodeRows) (are : AreRows i cuts rows) where
  before : List Row
  before = cell_rows i.cells ++ (floor_rows i.cells ++ ceiling_rows i.cells)

  after : List Row
  after = least_row i.heads_min ∷ most_row i.heads_max ∷ cut_rows cuts

  parts : before ++ after ≡ rows_of i cuts
  unfolding before after
  parts = simp append_assoc

  length_before : length before ≡ first_head i
  unfolding before
  length_before =
      omega (arith, length-append (cell_rows i.cells) (floor_rows i.cells ++ ceiling_rows i.cells), length-append (floor_rows i.cells) (ceiling_rows i.cells), length-cell_rows i.cells)

  brings_before : Brings (row_cells i.cells) before
  unfolding before
  brings_before =
      rw (← needs_are i.cells, ← floors_are i.cells, ← ceilings_are i.cells)
      (brings-append (kind_cells Need i.cells) _ (kind_rows Need i.cells) _ (brings_kind Need i.cells)
      (brings-append (kind_cells Floor i.cells) _ (kind_rows Floor i.cells) _ (brings_kind Floor i.cells) (brings_kind Ceiling i.cells)))

  module _ (t : Parts) where
    letter_row : (k : ℕ) (l : CellLetter) → slice_get rows.letters k ≡ Some l → brought t (rows_of i cuts) k ≡ pos (count (is_letter l) (letters 1 t))
    letter_row k l e = rw (← parts) (brought_letter (row_cells i.cells) before after k l t brings_before (rw are.letters at e))

    least_here : brought t (rows_of i cuts) (first_head i) ≡ pos 1
    unfolding after
    least_here = rw (← parts) (number_after (λ (r : Row). pos (r.brings t)) before after (first_head i) 0 (omega (arith, length_before)))

    most_here : brought t (rows_of i cuts) (first_head i + 1) ≡ pos 1
    unfolding after
    most_here = rw (← parts) (number_after (λ (r : Row). pos (r.brings t)) before after (first_head i + 1) 1 (omega (arith, length_before)))

    cut_here : (j : ℕ) (c : Cut) → slice_get cuts j ≡ Some c → brought t (rows_of i cuts) (first_head i + 2 + j) ≡ pos (tree_arcs c.arc t)
    unfolding after
    cut_here j c e =
        rw (← parts) (number_after (λ (r : Row). pos (r.brings t)) before after (first_head i + 2 + j) (suc (suc j)) (omega (arith, length_before)) ∙ brought_cut cuts j c t e)

    module _ (x : PoolTree) (is : IsPoolTree i.grammar t x) where
      letter_there : (k : ℕ) (l : CellLetter) → slice_get rows.letters k ≡ Some l → brought t (rows_of i cuts) k ≡ pos (count (is_letter l) (letters_from 1 x.codes))
      letter_there k l e = letter_row k l e ∙ ap (λ (ls : List Letter). pos (count (is_letter l) ls)) is.letters

      arc_there : (j : ℕ) (c : Cut) → slice_get cuts j ≡ Some c → brought t (rows_of i cuts) (first_head i + 2 + j) ≡ pos (cond (nat_lt 0 (count (same_arc c.arc) x.arcs)) 1 0)
      arc_there j c e =
          cut_here j c e ∙ ap pos (one_or_none (tree_arcs c.arc t) (arc_once i.grammar are.sound.grammar t c.arc is.day)) ∙ ap (λ n. pos (cond (nat_lt 0 n) 1 0)) (sym (is.arcs c.arc))

      pub listed_all : (e0 e1 e2 e3 e4 : Entries) → e0 ≡ record { places = []; rows = 0 }
          → ((entry : ℕ → ℤ) → AreListed 0 entry e0 → length rows.letters ≤ 1500
          → ((k : ℕ) (l : CellLetter) → slice_get rows.letters k ≡ Some l → entry k ≡ pos (count (is_letter l) (letters_from 1 x.codes))) → AreListed (length rows.letters) entry e1)
          → e2 ≡ with_entry e1 true → e3 ≡ with_entry e2 true
          → ((n : ℕ) (entry : ℕ → ℤ) → AreListed n entry e3 → n + length cuts ≤ 1500
          → ((k : ℕ) (c : Cut) → slice_get cuts k ≡ Some c → entry (n + k) ≡ pos (cond (nat_lt 0 (count (same_arc c.arc) x.arcs)) 1 0)) → AreListed (n + length cuts) entry e4)
          → IsColumn (length (rows_of i cuts)) (brought t (rows_of i cuts)) e4.places
      listed_all e0 e1 e2 e3 e4 begun letters_added q2 q3 cuts_added =
          let entry : ℕ → ℤ = brought t (rows_of i cuts) in
          let many = row_count i cuts in
          let few = are.few in
          let head : length rows.letters ≡ first_head i = ap length are.letters ∙ heads_begin i in
          let l0 : AreListed 0 entry e0 = rw begun (listed_0 entry) in
          let l1 : AreListed (first_head i) entry e1 = rw head at (letters_added entry l0 (omega (arith, head, many, few)) letter_there) in
          let l2 : AreListed (first_head i + 1) entry e2 = rw q2 (listed_step (first_head i) entry e1 true (omega (arith, many, few)) l1 least_here) in
          let l3 : AreListed (first_head i + 2) entry e3 =
          let two : first_head i + 2 ≡ first_head i + 1 + 1 = omega arith in
          rw (two, q3) (listed_step (first_head i + 1) entry e2 true (omega (arith, many, few)) l2 most_here) in
          let l4 = cuts_added (first_head i + 2) entry l3 (omega (arith, many, few)) arc_there in
          let all : length (rows_of i cuts) ≡ first_head i + 2 + length cuts = many in
          rw all l4.column
