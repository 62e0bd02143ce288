-- The lines of demands that are still to be written.
use Rattle.std.proofs.Common.{◌≡◌, ℕ, ◌≤◌, List, [], ◌∷◌, ◌++◌, length, take, drop, sym, ap, ◌∙◌, arith, append_assoc, append-nil, length-append}
use Rattle.std.proofs.lemmas.List.{drop_at}
use Rattle.std.proofs.Math.Seq.{take-append_seam}
use Rattle.text_lines.specs.Written.{written}
use Rattle.model_rosters.specs.declared.grammar.Grammar.{Grammar}
use Rattle.model_rosters.specs.declared.instance.Cell.{Cell}
use Rattle.model_rosters.specs.Demands.{Demand, demand_cells, all_cells, IsDemand, IsOneDemand}
use Rattle.model_rosters.specs.Folds.{Each}
use Rattle.model_rosters.proofs.SoundCells.{length-cells_from}
use Rattle.text_demand.specs.Written.{code_lines, demand_lines}
use Rattle.text_lines.proofs.WrittenLemmas.{written_append}

module _ (g : Grammar) where
  -- the cells of some demands, whose lines make the whole text
  abbrev pub Left : List Cell → List ℕ → List ℕ → Type 0
  Left rest out whole = (es : List Demand) × Each (IsDemand g) es × (rest ≡ all_cells es) × (out ++ written (demand_lines g.codes es) ≡ whole)

  long : (d : Demand) → IsDemand g d → length (demand_cells d) ≡ g.periods
  long d h = length-cells_from d 1 d.periods ∙ h.whole

  front : (d : Demand) (es : List Demand) → IsDemand g d → take g.periods (demand_cells d ++ all_cells es) ≡ demand_cells d
  front d es h = rw (sym (long d h)) (take-append_seam (demand_cells d) (all_cells es))

  back : (d : Demand) (es : List Demand) → IsDemand g d → drop g.periods (demand_cells d ++ all_cells es) ≡ all_cells es
  back d es h = drop_at (demand_cells d) (all_cells es) g.periods (long d h)

  pub enough : (rest : List Cell) (out whole : List ℕ) → 1 ≤ length rest → Left rest out whole → g.periods ≤ length rest
  enough rest out whole some l = by l.0 l.1 l.2
    where
      by : (es : List Demand) → Each (IsDemand g) es → rest ≡ all_cells es → g.periods ≤ length rest
      by [] h e = absurd (omega (arith, ap length e))
      by (d ∷ es) h e = omega (arith, ap length e, length-append (demand_cells d) (all_cells es), long d h.0)

  pub one : (rest first : List Cell) (out whole : List ℕ) → 1 ≤ length rest → first ≡ take g.periods rest → Left rest out whole → IsOneDemand g first
  one rest first out whole some f l = by l.0 l.1 l.2
    where
      by : (es : List Demand) → Each (IsDemand g) es → rest ≡ all_cells es → IsOneDemand g first
      by [] h e = absurd (omega (arith, ap length e))
      by (d ∷ es) h e = record { demand = d; sound = h.0; made = f ∙ ap (take g.periods) e ∙ front d es h.0 }

  pub next : (rest first others : List Cell) (o1 o2 whole : List ℕ) → 1 ≤ length rest → first ≡ take g.periods rest → others ≡ drop g.periods rest
      → o2 ≡ o1 ++ written (code_lines g.codes first) → Left rest o1 whole → Left others o2 whole
  next rest first others o1 o2 whole some f b w l = by l.0 l.1 l.2 l.3
    where
      by : (es : List Demand) → Each (IsDemand g) es → rest ≡ all_cells es → o1 ++ written (demand_lines g.codes es) ≡ whole → Left others o2 whole
      by [] h e t = absurd (omega (arith, ap length e))
      by (d ∷ es) h e t =
          let is : first ≡ demand_cells d = f ∙ ap (take g.periods) e ∙ front d es h.0 in
          let mine : List (List (List ℕ)) = code_lines g.codes (demand_cells d) in
          let theirs : List (List (List ℕ)) = demand_lines g.codes es in
          let o2-is : o2 ≡ o1 ++ written mine = w ∙ ap (λ (cs : List Cell). o1 ++ written (code_lines g.codes cs)) is in (
            es,
            h.1,
            b ∙ ap (drop g.periods) e ∙ back d es h.0,
            ap (λ (o : List ℕ). o ++ written theirs) o2-is ∙ append_assoc o1 (written mine) (written theirs)
                ∙ ap (λ (o : List ℕ). o1 ++ o) (sym (written_append mine theirs)) ∙ t,
          )

  -- where no cell is left, the whole text is written
  pub none_left : (rest : List Cell) (out whole : List ℕ) → length rest ≡ 0 → 1 ≤ g.periods → Left rest out whole → out ≡ whole
  none_left rest out whole none some l = by l.0 l.1 l.2 l.3
    where
      by : (es : List Demand) → Each (IsDemand g) es → rest ≡ all_cells es → out ++ written (demand_lines g.codes es) ≡ whole → out ≡ whole
      by [] h e t = sym (append-nil out) ∙ t
      by (d ∷ es) h e t = absurd (omega (arith, ap length e, length-append (demand_cells d) (all_cells es), long d h.0))
