-- What the words of a report's lines say.
use Rattle.std.specs.Prelude.{ℕ, ◌+◌, Bool, ◌&&◌, ◌==◌, nat_le, nat_lt, is_some, length, codes, position, List, [], ◌∷◌, Option, Some, None, Result, Ok, Err, if◌then◌else◌}
use Rattle.std.specs.List.{list_all}
use Rattle.std.specs.Option.{option_and_then}
use Rattle.std.specs.Str.{bytes_eq}
use Rattle.text_lines.specs.Numbers.{natural_of}
use Rattle.text_lines.specs.declared.number.NumberFault.{NumberFault}
use Rattle.model_rosters.specs.declared.instance.Done.{Done}
use Rattle.model_rosters.specs.declared.instance.Done.TheVariants.{Equal, NoRoster, TurnsOut}
use Rattle.model_rosters.specs.declared.instance.Group.{Group}
use Rattle.model_rosters.specs.declared.instance.Shift.{Shift}
use Rattle.text_proof_pieces.specs.Fields.{has_name}
use Rattle.text_proof_pieces.specs.ShiftLines.{version, is_pair}
use Rattle.text_reports.specs.declared.cover.Cover.{Cover}
use Rattle.text_reports.specs.declared.part.Part.{Part}
use Rattle.text_reports.specs.ReportText.{part_name}

-- the greatest numbers of 64 and of 32 bits
abbrev pub most_amount : ℕ
most_amount = 18446744073709551615

abbrev pub most_count : ℕ
most_count = 4294967295

-- a number that was read, where it is no greater than this
abbrev pub at_most : ℕ → Result ℕ NumberFault → Option ℕ
at_most most (Ok n) = if nat_le n most then Some n else None
at_most most (Err e) = None

unfoldable pub number_word : ℕ → List ℕ → Option ℕ
number_word most w = at_most most (natural_of w)

-- the second of two words, of which the first is this one
unfoldable pub value_word : List ℕ → List (List ℕ) → Option (List ℕ)
value_word first (v ∷ w ∷ []) = if bytes_eq v first then Some w else None
value_word first _ = None

unfoldable pub number_said : ℕ → List ℕ → List (List ℕ) → Option ℕ
number_said most first ws = option_and_then (number_word most) (value_word first ws)

unfoldable pub header_said : List Group → List (List ℕ) → Option (Unit {0})
header_said groups ws = if is_pair (codes "report") (version groups) ws then Some tt else None

unfoldable pub done_of : List ℕ → Option Done
done_of w =
    if bytes_eq w (codes "optimal") then Some Equal
    else (if bytes_eq w (codes "none") then Some NoRoster
    else (if bytes_eq w (codes "turns") then Some TurnsOut
    else None))

unfoldable pub done_said : List (List ℕ) → Option Done
done_said ws = option_and_then done_of (value_word (codes "result") ws)

-- a cost or a bound: a number, or `none`
unfoldable pub amount_of : List ℕ → Option (Option ℕ)
amount_of w =
    if bytes_eq w (codes "none") then Some None
    else option_and_then (λ n. Some (Some n)) (number_word most_amount w)

unfoldable pub amount_said : List ℕ → List (List ℕ) → Option (Option ℕ)
amount_said first ws = option_and_then amount_of (value_word first ws)

-- the number of the group of a name, from 1
unfoldable pub group_of : List (List ℕ) → List Group → List ℕ → Option ℕ
group_of names groups w = option_and_then (λ place. Some (place + 1)) (position (has_name names w) groups)

-- the word and the price of a shift of a group
unfoldable pub letters_of : ℕ → List ℕ → List ℕ → Option Shift
letters_of group word price =
    if nat_lt 96 (length word) then None
    else option_and_then (λ paid. Some (record { group = group; word = word; price = paid }))
    (number_word most_amount price)

-- a shift where there are no groups
unfoldable pub plain_said : List (List ℕ) → Option Shift
plain_said (v ∷ word ∷ price ∷ []) = if bytes_eq v (codes "shift") then letters_of 0 word price else None
plain_said _ = None

-- a shift behind the name of its group
unfoldable pub named_said : List (List ℕ) → List Group → List (List ℕ) → Option Shift
named_said names groups (v ∷ name ∷ word ∷ price ∷ []) =
    if bytes_eq v (codes "shift")
    then option_and_then (λ group. letters_of group word price) (group_of names groups name) else None
named_said names groups _ = None

abbrev pub shift_said : List (List ℕ) → List Group → List (List ℕ) → Option Shift
shift_said names [] ws = plain_said ws
shift_said names (g ∷ gs) ws = named_said names (g ∷ gs) ws

abbrev pub is_count : List ℕ → Bool
is_count w = is_some (number_word most_count w)

-- the words of the numbers of this part of the cover of a code's cells
unfoldable pub part_said : Part → ℕ → ℕ → List (List ℕ) → Option (List (List ℕ))
part_said part byte n (w ∷ c ∷ ws) =
    if bytes_eq w (part_name part) && bytes_eq c (byte ∷ []) && length ws == n && list_all is_count ws
    then Some ws else None
part_said part byte n _ = None

abbrev pub number_or_zero : Option ℕ → ℕ
number_or_zero (Some n) = n
number_or_zero None = 0

unfoldable pub count_of : List ℕ → ℕ
count_of w = number_or_zero (number_word most_count w)

-- how cells are covered, by the words of the four parts
unfoldable pub covers_of : List (List ℕ) → List (List ℕ) → List (List ℕ) → List (List ℕ)
    → List Cover
covers_of (a ∷ as') (b ∷ bs) (c ∷ cs) (d ∷ ds) =
    record { need = count_of a; have = count_of b; short = count_of c; over = count_of d }
    ∷ covers_of as' bs cs ds
covers_of _ _ _ _ = []
