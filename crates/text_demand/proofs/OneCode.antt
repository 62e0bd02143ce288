-- The cells of one demand: there are some, and the first has its code.
use Rattle.std.proofs.Common.{◌≡◌, ℕ, ◌<◌, ◌≤◌, List, [], ◌∷◌, ◌++◌, length, get_or, sym, ap, ◌∙◌, arith, append_assoc, subst}
use Rattle.std.specs.Prelude.{codes}
use Rattle.std.proofs.lemmas.Option.{slice_get_within}
use Rattle.text_lines.specs.Written.{written}
use Rattle.model_rosters.specs.declared.grammar.Grammar.{Grammar}
use Rattle.model_rosters.specs.declared.grammar.CodeDef.{CodeDef}
use Rattle.model_rosters.specs.declared.instance.Cell.{Cell}
use Rattle.model_rosters.specs.Demands.{PeriodDemand, cells_from, IsOneDemand}
use Rattle.text_demand.specs.declared.number_of.NumberOf.TheVariants.{Floor, Ceiling}
use Rattle.text_demand.specs.Written.{code_byte, need_line, bound_lines, code_lines}
use Rattle.text_lines.proofs.WrittenLemmas.{written_append}

abbrev pub nothing : Cell
nothing = record { code = 0; period = 0; need = 0; under = 0; over = 0; floor = 0; ceiling = 0 }

-- the front of the cells
pub record HasFirst (g : Grammar) (cells : List Cell) : Type 0 where
  pub some : 0 < length cells
  pub code : (get_or cells 0 nothing).code < length g.codes

pub has_first : (g : Grammar) (cells : List Cell) → 1 ≤ g.periods → IsOneDemand g cells → HasFirst g cells
has_first g cells some one = let d = one.demand in subst (HasFirst g) (sym one.made) (by d.periods (one.sound.whole))
  where
    by : (ps : List PeriodDemand) → length ps ≡ g.periods → HasFirst g (cells_from (one.demand) 1 ps)
    by [] e = absurd (omega (arith, e))
    by (p ∷ ps) e = let w = one.sound.work in record { some = omega arith; code = slice_get_within g.codes one.demand.code w.0 w.1 }

-- the lines of cells that have a first
pub lines_joined : (defs : List CodeDef) (cells : List Cell) (o0 o1 o2 o3 : List ℕ) → 0 < length cells
    → o1 ≡ o0 ++ written (need_line (code_byte defs (get_or cells 0 nothing).code) (get_or cells 0 nothing).under (get_or cells 0 nothing).over cells ∷ [])
    → o2 ≡ o1 ++ written (bound_lines (codes "least") (code_byte defs (get_or cells 0 nothing).code) Floor 0 cells)
    → o3 ≡ o2 ++ written (bound_lines (codes "most") (code_byte defs (get_or cells 0 nothing).code) Ceiling 64 cells)
    → o3 ≡ o0 ++ written (code_lines defs cells)
lines_joined defs [] o0 o1 o2 o3 lt e1 e2 e3 = absurd (omega (arith, lt))
lines_joined defs (c ∷ cs) o0 o1 o2 o3 lt e1 e2 e3 =
    by (need_line (code_byte defs c.code) c.under c.over (c ∷ cs)) (bound_lines (codes "least") (code_byte defs c.code) Floor 0 (c ∷ cs)) (bound_lines (codes "most") (code_byte defs c.code) Ceiling 64 (c ∷ cs)) e1 e2 e3
  where
    by : (n : List (List ℕ)) (l m : List (List (List ℕ))) → o1 ≡ o0 ++ written (n ∷ []) → o2 ≡ o1 ++ written l → o3 ≡ o2 ++ written m → o3 ≡ o0 ++ written (n ∷ (l ++ m))
    by n l m h1 h2 h3 =
        let back : written (n ∷ (l ++ m)) ≡ written (n ∷ []) ++ (written l ++ written m) = written_append (n ∷ []) (l ++ m) ∙ ap (λ (t : List ℕ). written (n ∷ []) ++ t) (written_append l m) in
        h3 ∙ ap (λ (t : List ℕ). t ++ written m) (h2 ∙ ap (λ (t : List ℕ). t ++ written l) h1)
        ∙ append_assoc (o0 ++ written (n ∷ [])) (written l) (written m) ∙ append_assoc o0 (written (n ∷ [])) (written l ++ written m)
        ∙ ap (λ (t : List ℕ). o0 ++ t) (sym back)
