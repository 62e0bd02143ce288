-- Coverage of cells, understaffing and overstaffing, and their penalties.
use Rattle.std.specs.Prelude.{ℕ, ◌≤◌, ◌+◌, ◌-◌, ◌*◌, Bool, ◌&&◌, nat_eq, None, Some, List, slice_get, false}
use Rattle.model_rosters.specs.declared.grammar.Grammar.{Grammar}
use Rattle.model_rosters.specs.declared.instance.Cell.{Cell}
use Rattle.model_rosters.specs.Arcs.{Letter}
use Rattle.model_rosters.specs.Folds.{count}
use Rattle.model_rosters.specs.Duties.{Duty}

-- the byte of a code
abbrev pub code_byte : Grammar → ℕ → ℕ
code_byte g c = elim (slice_get g.codes c) [ None ↦ 0 | Some d ↦ d.byte ]

-- the word has the byte at the place, counted from 0
abbrev pub has_at : ℕ → List ℕ → ℕ → Bool
has_at byte w k = elim (slice_get w k) [ None ↦ false | Some b ↦ nat_eq b byte ]

-- the word has the cell's letter at the cell's period; a shorter word has none there
abbrev pub covers_cell : Grammar → Cell → List ℕ → Bool
covers_cell g c w = has_at (code_byte g c.code) w (c.period - 1)

-- how many of the employees work at the cell
abbrev pub covered : Grammar → Cell → List Duty → ℕ
covered g c ds = count (λ (d : Duty). covers_cell g c d.word) ds

-- the letter is the cell's
abbrev pub is_at : Cell → Letter → Bool
is_at c l = nat_eq c.code l.code && nat_eq c.period l.period

-- how many employees are missing
abbrev pub understaffing : Cell → ℕ → ℕ
understaffing c n = c.need - n

-- how many employees are there beyond the need
abbrev pub overstaffing : Cell → ℕ → ℕ
overstaffing c n = n - c.need

-- what n employees at the cell cost
abbrev pub penalty : Cell → ℕ → ℕ
penalty c n = c.under * understaffing c n + c.over * overstaffing c n

-- n employees are within the cell's floor and ceiling
pub record IsWithinCell (c : Cell) (n : ℕ) : Type 0 where
  pub floor : c.floor ≤ n
  pub ceiling : n ≤ c.ceiling
