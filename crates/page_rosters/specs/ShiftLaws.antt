-- Which lines of the table of shifts a shift has, and whose name stands in them.
use Rattle.std.specs.Prelude.{ℕ, ◌≡◌, ◌+◌, Bool, true, false, List, [], ◌∷◌, map}
use Rattle.model_rosters.specs.Folds.{Each}
use Rattle.page_labels.specs.Labels.{shift_name}
use Rattle.page_labels.specs.declared.labels.Labels.{Labels}
use Rattle.page_tables.specs.declared.line.ShiftLine.{ShiftLine}
use Rattle.model_shift_figures.specs.declared.stretch.Stretch.{Stretch}
use Rattle.page_rosters.specs.Moments.{begin_text, end_text}

-- the line has the name of the shift whose number it has, or none where that has none
pub record HasItsName (d : Labels) (l : ShiftLine) : Type 0 where
  pub who : l.who ≡ shift_name d.shifts l.number

-- the line is of the shift behind so many
pub record IsOfShift (k : ℕ) (l : ShiftLine) : Type 0 where
  pub number : l.number ≡ k + 1

-- a line is the first one, and no further one is
abbrev pub firsts : Bool → List Stretch → List Bool
firsts first [] = []
firsts first (t ∷ ts) = first ∷ firsts false ts

-- lines of one shift, one for each of its stretches, in their order, of which the first one alone is marked
-- as such
pub record AreItsStretches (d : Labels) (k : ℕ) (ts : List Stretch) (ls : List ShiftLine) : Type 0 where
  pub shift : Each (IsOfShift k) ls
  pub begins : map (λ (l : ShiftLine). l.begin) ls ≡ map (λ (t : Stretch). begin_text d.clock t.first) ts
  pub ends : map (λ (l : ShiftLine). l.end) ls ≡ map (λ (t : Stretch). end_text d.clock t.last) ts
  pub first : map (λ (l : ShiftLine). l.first) ls ≡ firsts true ts
