-- What the tables for spreadsheets share: fields of texts, times and amounts, and the mark of their encoding.
use Rattle.std.specs.Prelude.{ℕ, ◌||◌, Bool, Option, None, Some, List, [], ◌∷◌, nat_eq, nat_lt, slice_get, if◌then◌else◌}
use Rattle.std.specs.List.{list_any}
use Rattle.model_rosters.specs.declared.grammar.CodeDef.{CodeDef}
use Rattle.page_labels.specs.Clocks.{time_text}
use Rattle.page_labels.specs.declared.clock.Clock.{Clock}
use Rattle.page_parts.specs.Elements.{units, written}

-- a spreadsheet reads what begins with such a byte as a formula
abbrev pub is_formula_byte : ℕ → Bool
is_formula_byte b = nat_eq b 61 || nat_eq b 43 || nat_eq b 45 || nat_eq b 64

-- an apostrophe before what would be read as a formula
unfoldable pub guarded : List ℕ → List ℕ
guarded [] = []
guarded (b ∷ bs) = if is_formula_byte b then 39 ∷ b ∷ bs else b ∷ bs

-- the time behind so many periods, or nothing without a clock
abbrev pub time_of : Option Clock → ℕ → List ℕ
time_of None passed = []
time_of (Some c) passed = time_text c passed

-- the letter of the code at a place, or nothing
abbrev pub letter_at : List CodeDef → ℕ → List ℕ
letter_at cs place = elim (slice_get cs place) [ None ↦ [] | Some c ↦ c.byte ∷ [] ]

-- an amount with so many decimals
abbrev pub amount_text : ℕ → ℕ → List ℕ
amount_text decimals n = written (units decimals n ∷ [])

-- a byte that is no ASCII
abbrev pub is_beyond : ℕ → Bool
is_beyond b = nat_lt 127 b

-- a byte order mark before a text that is not all ASCII: spreadsheets read it wrongly else
unfoldable pub marked : List ℕ → List ℕ
marked text = if list_any is_beyond text then 239 ∷ 187 ∷ 191 ∷ text else text
