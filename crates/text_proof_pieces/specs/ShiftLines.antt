-- The header, the lines of cost and bound, and the lines of shifts.
use Rattle.std.specs.Prelude.{ℕ, Bool, false, ◌&&◌, ◌==◌, nat_le, nat_lt, length, codes, List, [], ◌∷◌, Option, Some, None, if◌then◌else◌, Result, Ok, Err}
use Rattle.std.specs.Str.{bytes_eq}
use Rattle.model_rosters.specs.declared.instance.Group.{Group}
use Rattle.model_rosters.specs.declared.instance.Instance.{Instance}
use Rattle.model_rosters.specs.declared.instance.Shift.{Shift}
use Rattle.check_certificates.specs.Sound.{most_cost}
use Rattle.text_lines.specs.Steps.{◌>>=◌}
use Rattle.text_proof_pieces.specs.declared.fault.PieceFault.{PieceFault}
use Rattle.text_proof_pieces.specs.declared.fault.PieceFault.TheVariants.{UnknownLine, OutOfRange}
use Rattle.text_proof_pieces.specs.Fields.{number_at, amount_at, group_at}

-- the version of the text: 2 with groups, else 1
abbrev pub version : List Group → List ℕ
version [] = codes "1"
version (g ∷ gs) = codes "2"

-- two words, of which the first is this one, and the second this one
abbrev pub is_pair : List ℕ → List ℕ → List (List ℕ) → Bool
is_pair first second (v ∷ w ∷ []) = bytes_eq v first && bytes_eq w second
is_pair first second _ = false

abbrev pub is_header : List Group → List (List ℕ) → Bool
is_header groups ws = is_pair (codes "proof") (version groups) ws

-- a line of a cost or a bound, by its first word
unfoldable pub amount_line : ℕ → List ℕ → List (List ℕ) → Result (Option ℕ) PieceFault
amount_line k first (v ∷ w ∷ []) = if bytes_eq v first then amount_at k w else Err (UnknownLine k)
amount_line k first _ = Err (UnknownLine k)

-- how many words follow the first one of a shift line
abbrev pub shift_width : List Group → ℕ
shift_width [] = 2
shift_width (g ∷ gs) = 3

unfoldable pub is_shift : List Group → List (List ℕ) → Bool
is_shift groups [] = false
is_shift groups (w ∷ ws) = bytes_eq w (codes "shift") && length ws == shift_width groups

-- the number of the group, or 0 where none is named
abbrev pub team_at : ℕ → List (List ℕ) → List Group → Option (List ℕ) → Result ℕ PieceFault
team_at k names groups None = Ok 0
team_at k names groups (Some w) = group_at k names groups w

-- the word and the price of a shift of a group
unfoldable pub letters_of : ℕ → ℕ → List ℕ → List ℕ → Result Shift PieceFault
letters_of k group word price =
    if nat_lt 96 (length word) then Err (OutOfRange k)
    else (number_at k 0 most_cost price >>= λ paid. Ok (record { group = group; word = word; price = paid }))

unfoldable pub shift_of : ℕ → Instance → Option (List ℕ) → List ℕ → List ℕ → Result Shift PieceFault
shift_of k i name word price =
    team_at k i.grammar.names i.groups name >>= λ group. letters_of k group word price

-- a shift behind n shifts, of which there are at most 64
unfoldable pub shift_at : ℕ → Instance → ℕ → List (List ℕ) → Result Shift PieceFault
shift_at k i n (v ∷ word ∷ price ∷ []) =
    if nat_le 64 n then Err (OutOfRange k) else shift_of k i None word price
shift_at k i n (v ∷ name ∷ word ∷ price ∷ []) =
    if nat_le 64 n then Err (OutOfRange k) else shift_of k i (Some name) word price
shift_at k i n _ = Err (UnknownLine k)
