-- The cells of a line.
use Rattle.std.specs.Prelude.{ℕ, Bool, ◌||◌, nat_eq, List, [], ◌∷◌, ◌++◌, length, Result, Ok, Err, if◌then◌else◌}
use Rattle.std.specs.List.{list_all}
use Rattle.text_lines.specs.Words.{words}
use Rattle.text_lines.specs.Written.{tail}
use Rattle.plan_cells.specs.declared.fault.CellFault.{CellFault}
use Rattle.plan_cells.specs.declared.fault.CellFault.TheVariants.{Behind, Unclosed}
use Rattle.plan_cells.specs.declared.reading.Place.{Place}
use Rattle.plan_cells.specs.declared.reading.Place.TheVariants.{Before, Closed, Marked, Past, Plain, Stray}
use Rattle.plan_cells.specs.declared.reading.Reading.{Reading}
use Rattle.plan_cells.specs.Steps.{◌>>=◌, each}

abbrev pub space : ℕ
space = 32

abbrev pub quotation_mark : ℕ
quotation_mark = 34

-- a semicolon, a tab or a comma
abbrev pub is_separator : ℕ → Bool
is_separator b = nat_eq b 59 || nat_eq b 9 || nat_eq b 44

-- what parts the cells of a table with this first line: the first separator, or spaces where there is none
abbrev pub separator_of : List ℕ → ℕ
separator_of [] = space
separator_of (b ∷ bs) = if is_separator b then b else separator_of bs

-- words with one space between them
abbrev pub joined : List (List ℕ) → List ℕ
joined [] = []
joined (w ∷ ws) = w ++ tail ws

-- the words of a cell, with one space between them
abbrev pub cell_text : List ℕ → List ℕ
cell_text bytes = joined (words bytes)

-- before a first cell
abbrev pub no_cell : Reading
no_cell = record { place = Before; cell = []; cells = [] }

-- the next byte stands elsewhere
abbrev pub moved : Place → Reading → Reading
moved place r = record r { place = place }

-- one more byte of the cell
abbrev pub kept : Place → ℕ → Reading → Reading
kept place b r = record r { place = place; cell = r.cell ++ b ∷ [] }

-- the first byte of what stands behind a cell in quotation marks
abbrev pub strayed : ℕ → Reading → Reading
strayed b r = record r { place = Stray; cell = b ∷ [] }

-- the cell is over
abbrev pub ended : Reading → Reading
ended r = record { place = Before; cell = []; cells = r.cells ++ cell_text r.cell ∷ [] }

-- a byte before a cell
unfoldable pub before_at : ℕ → Reading → ℕ → Result Reading CellFault
before_at separator r b =
    if nat_eq b space then Ok r
    else (if nat_eq b separator then Ok (ended r)
    else (if nat_eq b quotation_mark then Ok (moved Marked r) else Ok (kept Plain b r)))

-- a byte in a cell without quotation marks
unfoldable pub plain_at : ℕ → Reading → ℕ → Result Reading CellFault
plain_at separator r b = if nat_eq b separator then Ok (ended r) else Ok (kept Plain b r)

-- a byte in a cell in quotation marks
unfoldable pub marked_at : Reading → ℕ → Result Reading CellFault
marked_at r b = if nat_eq b quotation_mark then Ok (moved Closed r) else Ok (kept Marked b r)

-- a byte behind a cell in quotation marks, and perhaps behind spaces
unfoldable pub past_at : ℕ → Reading → ℕ → Result Reading CellFault
past_at separator r b =
    if nat_eq b separator then Ok (ended r)
    else (if nat_eq b space then Ok (moved Past r) else Ok (strayed b r))

-- a byte right behind a second quotation mark, which is the last of the cell, or doubled
unfoldable pub closed_at : ℕ → Reading → ℕ → Result Reading CellFault
closed_at separator r b =
    if nat_eq b quotation_mark then Ok (kept Marked b r) else past_at separator r b

-- a byte of what stands behind a cell in quotation marks
unfoldable pub stray_at : ℕ → Reading → ℕ → Result Reading CellFault
stray_at separator r b =
    if nat_eq b separator then Err (Behind (cell_text r.cell)) else Ok (kept Stray b r)

-- a byte, by where it stands
abbrev pub placed_at : ℕ → Place → Reading → ℕ → Result Reading CellFault
placed_at separator Before r b = before_at separator r b
placed_at separator Plain r b = plain_at separator r b
placed_at separator Marked r b = marked_at r b
placed_at separator Closed r b = closed_at separator r b
placed_at separator Past r b = past_at separator r b
placed_at separator Stray r b = stray_at separator r b

abbrev pub byte_at : ℕ → Reading → ℕ → Result Reading CellFault
byte_at separator r b = placed_at separator r.place r b

-- behind the last byte: where spaces part cells, none is left before a cell
abbrev pub last_at : ℕ → Place → Reading → Result (List (List ℕ)) CellFault
last_at separator Before r = if nat_eq separator space then Ok r.cells else Ok (r.cells ++ [] ∷ [])
last_at separator Plain r = Ok (r.cells ++ cell_text r.cell ∷ [])
last_at separator Marked r = Err Unclosed
last_at separator Closed r = Ok (r.cells ++ cell_text r.cell ∷ [])
last_at separator Past r = Ok (r.cells ++ cell_text r.cell ∷ [])
last_at separator Stray r = Err (Behind (cell_text r.cell))

-- the texts of the cells of a line, or the fault of its quotation marks
unfoldable pub cells_of : ℕ → List ℕ → Result (List (List ℕ)) CellFault
cells_of separator bytes =
    each (byte_at separator) no_cell bytes >>= λ r. last_at separator r.place r

-- no cell says anything
abbrev pub are_empty : List (List ℕ) → Bool
are_empty cells = list_all (λ (c : List ℕ). nat_eq (length c) 0) cells
