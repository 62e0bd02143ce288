-- The words of a line: numbers, names and words of a day.
use Rattle.std.specs.Prelude.{ℕ, ℤ, ◌+◌, ◌^◌, nat_lt, unsigned_abs, position, slice_get, Bool, false, codes, List, Option, Some, None, if◌then◌else◌, Result, Ok, Err}
use Rattle.std.specs.Str.{bytes_eq}
use Rattle.text_lines.specs.Fields as fields
use Rattle.text_lines.specs.Numbers.{number_of}
use Rattle.text_lines.specs.Steps.{◌>>=◌}
use Rattle.text_lines.specs.declared.number.NumberFault.{NumberFault}
use Rattle.text_lines.specs.declared.number.NumberFault.TheVariants.{Form, Wide}
use Rattle.model_rosters.specs.declared.instance.Group.{Group}
use Rattle.check_certificates.specs.Sound.{most_cost}
use Rattle.text_proof_pieces.specs.declared.fault.PieceFault.{PieceFault}
use Rattle.text_proof_pieces.specs.declared.fault.PieceFault.TheVariants.{BadNumber, OutOfRange}

-- the number from low to high that a word of line k says
abbrev pub number_at : ℕ → ℕ → ℕ → List ℕ → Result ℕ PieceFault
number_at k low high w = fields.number_at (BadNumber k) (OutOfRange k) low high w

-- a number that was read, where it is at most 2 ^ 80 in size
abbrev pub in_size : ℕ → Result ℤ NumberFault → Result ℤ PieceFault
in_size k (Ok z) = if nat_lt (2 ^ 80) (unsigned_abs z) then Err (OutOfRange k) else Ok z
in_size k (Err Form) = Err (BadNumber k)
in_size k (Err Wide) = Err (OutOfRange k)

-- the price that a word of line k says
unfoldable pub signed_at : ℕ → List ℕ → Result ℤ PieceFault
signed_at k w = in_size k (number_of w)

-- a cost or a bound: a number, or `none`
unfoldable pub amount_at : ℕ → List ℕ → Result (Option ℕ) PieceFault
amount_at k w =
    if bytes_eq w (codes "none") then Ok None else (number_at k 0 most_cost w >>= λ n. Ok (Some n))

-- the number after that of the place that was found, or else out of range
abbrev pub numbered_or : ℕ → Option ℕ → Result ℕ PieceFault
numbered_or k (Some place) = Ok (place + 1)
numbered_or k None = Err (OutOfRange k)

abbrev pub is_named : List ℕ → Option (List ℕ) → Bool
is_named w None = false
is_named w (Some name) = bytes_eq name w

-- the word is the name of the group
abbrev pub has_name : List (List ℕ) → List ℕ → Group → Bool
has_name names w g = is_named w (slice_get names g.name)

-- the number of the group of a name, from 1
unfoldable pub group_at : ℕ → List (List ℕ) → List Group → List ℕ → Result ℕ PieceFault
group_at k names groups w = numbered_or k (position (has_name names w) groups)
