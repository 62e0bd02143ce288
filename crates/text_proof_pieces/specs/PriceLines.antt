-- The lines of prices and of multipliers.
use Rattle.std.specs.Prelude.{ℕ, ℤ, pos, ◌+◌, ◌-◌, ◌^◌, Bool, false, ◌&&◌, ◌==◌, nat_le, length, codes, slice_get, slice_index_or, List, [], ◌∷◌, ◌++◌, Option, Some, None, if◌then◌else◌, Result, Ok, Err}
use Rattle.std.specs.Str.{bytes_eq}
use Rattle.model_rosters.specs.declared.grammar.CodeDef.{CodeDef}
use Rattle.model_rosters.specs.declared.instance.Cell.{Cell}
use Rattle.model_rosters.specs.declared.instance.Instance.{Instance}
use Rattle.model_rosters.specs.declared.instance.Mult.{Mult}
use Rattle.text_lines.specs.Steps.{◌>>=◌, each}
use Rattle.text_proof_pieces.specs.declared.fault.PieceFault.{PieceFault}
use Rattle.text_proof_pieces.specs.declared.fault.PieceFault.TheVariants.{UnknownLine, OutOfRange}
use Rattle.text_proof_pieces.specs.Fields.{number_at, signed_at}

abbrev pub code_byte : List CodeDef → ℕ → ℕ
code_byte defs c = (slice_index_or defs c (record { byte = 0; work = false })).byte

abbrev pub cell_code : Option Cell → ℕ
cell_code None = 0
cell_code (Some c) = c.code

-- the byte of the code whose prices are due behind so many prices
abbrev pub due_byte : Instance → ℕ → ℕ
due_byte i n = code_byte i.grammar.codes (cell_code (slice_get i.cells n))

-- one more price
abbrev pub price_step : ℕ → List ℤ → List ℕ → Result (List ℤ) PieceFault
price_step k cs w = signed_at k w >>= λ z. Ok (cs ++ z ∷ [])

-- the prices of one code, one for each period, behind those of the codes before
unfoldable pub price_line : ℕ → Instance → List ℤ → List (List ℕ) → Result (List ℤ) PieceFault
price_line k i cs (w ∷ c ∷ vs) =
    if bytes_eq w (codes "price") && bytes_eq c (due_byte i (length cs) ∷ [])
    && length vs == i.grammar.periods
    then each (price_step k) cs vs else Err (UnknownLine k)
price_line k i cs _ = Err (UnknownLine k)

abbrev pub is_mult : List (List ℕ) → Bool
is_mult (w ∷ j ∷ v ∷ []) = bytes_eq w (codes "mult")
is_mult _ = false

abbrev pub mult_cut : Option Mult → ℕ
mult_cut None = 0
mult_cut (Some m) = m.cut

-- the cut of the last multiplier, or 0
abbrev pub last_cut : List Mult → ℕ
last_cut ms = mult_cut (slice_get ms (length ms - 1))

-- a multiplier of a later one of so many cuts
unfoldable pub mult_of : ℕ → ℕ → List Mult → List ℕ → List ℕ → Result (List Mult) PieceFault
mult_of k cuts ms j v = do
  cut ← number_at k (last_cut ms + 1) cuts j
  value ← number_at k 1 (2 ^ 80) v
  Ok (ms ++ record { cut = cut; value = pos value } ∷ [])

-- one more multiplier, of at most 1,500
unfoldable pub mult_line : ℕ → ℕ → List Mult → List (List ℕ) → Result (List Mult) PieceFault
mult_line k cuts ms (w ∷ j ∷ v ∷ []) =
    if nat_le 1500 (length ms) then Err (OutOfRange k) else mult_of k cuts ms j v
mult_line k cuts ms _ = Err (UnknownLine k)
