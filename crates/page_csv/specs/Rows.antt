-- The table of a roster, as comma-separated values.
use Rattle.std.specs.Prelude.{ℕ, ◌+◌, ◌-◌, Option, None, Some, List, [], ◌∷◌, ◌++◌, codes, nat_eq, if◌then◌else◌}
use Rattle.std.specs.Fmt.{decimal}
use Rattle.std.specs.List.{flat_map}
use Rattle.csv.specs.Writing.{default_writer, row_text}
use Rattle.model_rosters.specs.declared.grammar.CodeDef.{CodeDef}
use Rattle.model_rosters.specs.declared.instance.Instance.{Instance}
use Rattle.model_rosters.specs.declared.instance.Shift.{Shift}
use Rattle.page_labels.specs.Labels.{code_words, decimals_of, shift_name}
use Rattle.page_labels.specs.declared.labels.Labels.{Labels}
use Rattle.page_rosters.specs.Called.{group_called}
use Rattle.page_csv.specs.declared.piece.Piece.{Piece}
use Rattle.page_csv.specs.Pieces.{pieces_of}
use Rattle.page_csv.specs.Sheets.{amount_text, guarded, marked, time_of}

-- the place of a further code, where it has the byte
unfoldable pub with_place : ℕ → Option ℕ → ℕ → CodeDef → Option ℕ
with_place byte found k c = if nat_eq c.byte byte then Some k else found

-- the place of the code with the byte among codes, of which so many stand before these
abbrev pub place_from : ℕ → ℕ → List CodeDef → Option ℕ → Option ℕ
place_from byte k [] found = found
place_from byte k (c ∷ cs) found = place_from byte (k + 1) cs (with_place byte found k c)

abbrev pub place_of : List CodeDef → ℕ → Option ℕ
place_of cs byte = place_from byte 0 cs None

-- what the code with the byte is called, or nothing
abbrev pub name_at : Labels → Option ℕ → List ℕ
name_at d None = []
name_at d (Some place) = code_words d.codes place

abbrev pub name_of : List CodeDef → Labels → ℕ → List ℕ
name_of cs d byte = name_at d (place_of cs byte)

-- the price of a shift, in its first record
unfoldable pub price_of : Shift → Piece → List ℕ
price_of s p = if nat_eq p.first 1 then decimal s.price else []

-- the same as an amount with so many decimals
unfoldable pub amount_of : ℕ → Shift → Piece → List ℕ
amount_of decimals s p = if nat_eq p.first 1 then amount_text decimals s.price else []

-- the fields of the record of a stretch, of the shift behind so many
abbrev pub fields_of : Instance → Labels → ℕ → Shift → Piece → List (List ℕ)
fields_of i d k s p =
    decimal (k + 1) ∷ guarded (group_called i d s.group) ∷ guarded (p.byte ∷ [])
    ∷ guarded (name_of i.grammar.codes d p.byte) ∷ decimal p.first ∷ decimal p.last
    ∷ time_of d.clock (p.first - 1) ∷ time_of d.clock p.last ∷ price_of s p ∷ guarded (shift_name d.shifts (k + 1))
    ∷ amount_of (decimals_of d) s p ∷ []

-- what stands above the records
abbrev pub head_fields : List (List ℕ)
head_fields =
    codes "shift" ∷ codes "group" ∷ codes "code" ∷ codes "name" ∷ codes "first" ∷ codes "last" ∷ codes "begin"
    ∷ codes "end" ∷ codes "price" ∷ codes "employee" ∷ codes "amount" ∷ []

-- the record of a stretch
abbrev pub piece_row : Instance → Labels → ℕ → Shift → Piece → List ℕ
piece_row i d k s p = row_text default_writer (fields_of i d k s p)

-- the records of the shift behind so many
abbrev pub shift_rows : Instance → Labels → ℕ → Shift → List ℕ
shift_rows i d k s = flat_map (piece_row i d k s) (pieces_of s.word)

-- the records of shifts, of which so many stand before these
abbrev pub rows_from : Instance → Labels → ℕ → List Shift → List ℕ
rows_from i d k [] = []
rows_from i d k (s ∷ ss) = shift_rows i d k s ++ rows_from i d (k + 1) ss

-- a record for each greatest stretch of one code, by the numbers of the shifts
abbrev pub table_of : Instance → Labels → List Shift → List ℕ
table_of i d shifts = marked (row_text default_writer head_fields ++ rows_from i d 0 shifts)
