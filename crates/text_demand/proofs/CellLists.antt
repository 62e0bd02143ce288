-- The cells of need lines, one period and one line after another.
use Rattle.std.proofs.Common.{◌≡◌, ℕ, zero, suc, ◌+◌, ◌<◌, List, [], ◌∷◌, ◌++◌, length, take, get_or, map, refl, sym, ap, ◌∙◌, arith, append_assoc, append-nil, add-one, add-zero}
use Rattle.model_rosters.specs.declared.instance.Cell.{Cell}
use Rattle.model_rosters.specs.Demands.{PeriodDemand, Demand, demand_cell, cells_from, demand_cells, all_cells}
use Rattle.text_demand_lines.specs.declared.draft.Bound.{Bound}
use Rattle.text_demand_lines.specs.declared.draft.Need.{Need}
use Rattle.text_demand.specs.InstanceOf.{bound_of, periods_from, demand_of}

module _ (l m : List Bound) (d : Demand) (code x : ℕ) where
  -- what is asked of a period, of which the default number is x
  abbrev asked : List ℕ → ℕ → ℕ → PeriodDemand
  asked ns i k = record { need = get_or ns i x; floor = bound_of l code k 0; ceiling = bound_of m code k 64 }

  cells_more : (p k : ℕ) (ns : List ℕ) (i : ℕ) → i < length ns
      → cells_from d p (periods_from l m code k (take (suc i) ns)) ≡ cells_from d p (periods_from l m code k (take i ns)) ++ demand_cell d (p + i) (asked ns i (k + i)) ∷ []
  cells_more p k [] i lt = absurd (omega arith)
  cells_more p k (n ∷ ns) zero lt = rw (add-zero p, add-zero k) refl
  cells_more p k (n ∷ ns) (suc i) lt =
      let first : Cell = demand_cell d p (record { need = n; floor = bound_of l code k 0; ceiling = bound_of m code k 64 }) in
      let e : p + suc i ≡ (p + 1) + i = omega arith in
      let f : k + suc i ≡ (k + 1) + i = omega arith in
      rw (e, f) (ap (λ (t : List Cell). first ∷ t) (cells_more (p + 1) (k + 1) ns i (omega (arith, lt))))

-- one more cell of a need line
pub push_more : (l m : List Bound) (n : Need) (o0 o1 o2 : List Cell) (i x : ℕ) → i < length n.counts
    → o1 ≡ o0 ++ cells_from (demand_of l m n) 1 (periods_from l m n.code 0 (take i n.counts))
    → o2 ≡ o1 ++ demand_cell (demand_of l m n) (i + 1) (record { need = get_or n.counts i x; floor = bound_of l n.code i 0; ceiling = bound_of m n.code i 64 }) ∷ []
    → o2 ≡ o0 ++ cells_from (demand_of l m n) 1 (periods_from l m n.code 0 (take (i + 1) n.counts))
push_more l m n o0 o1 o2 i x lt e h =
    let d : Demand = demand_of l m n in
    let p : 1 + i ≡ i + 1 = omega arith in
    let k : 0 + i ≡ i = omega arith in
    let cells : ℕ → List Cell = λ j. cells_from d 1 (periods_from l m n.code 0 (take j n.counts)) in
    let more = ap cells (add-one i) ∙ (rw (p, k) at (cells_more l m d n.code x 1 0 n.counts i lt)) in
    rw (h, e, more) (append_assoc o0 _ _)

module _ (f : Need → Demand) where
  lines_more : (ns : List Need) (i : ℕ) (n : Need) → i < length ns
      → all_cells (map f (take (suc i) ns)) ≡ all_cells (map f (take i ns)) ++ demand_cells (f (get_or ns i n))
  lines_more [] i n lt = absurd (omega arith)
  lines_more (y ∷ ns) zero n lt = append-nil (demand_cells (f y))
  lines_more (y ∷ ns) (suc i) n lt =
      ap (λ (t : List Cell). demand_cells (f y) ++ t) (lines_more ns i n (omega (arith, lt)))
      ∙ sym (append_assoc (demand_cells (f y)) (all_cells (map f (take i ns))) (demand_cells (f (get_or ns i n))))

  -- the cells of one more need line
  pub line_more : (ns : List Need) (i : ℕ) (n : Need) (o1 o2 : List Cell) → i < length ns → n ≡ get_or ns i n
      → o1 ≡ all_cells (map f (take i ns)) → o2 ≡ o1 ++ demand_cells (f n) → o2 ≡ all_cells (map f (take (i + 1) ns))
  line_more ns i n o1 o2 lt is e h =
      let last : demand_cells (f n) ≡ demand_cells (f (get_or ns i n)) = ap (λ (m : Need). demand_cells (f m)) is in
      h ∙ ap (λ (t : List Cell). t ++ demand_cells (f n)) e ∙ ap (λ (t : List Cell). all_cells (map f (take i ns)) ++ t) last
      ∙ sym (lines_more ns i n lt) ∙ ap (λ (j : ℕ). all_cells (map f (take j ns))) (sym (add-one i))
