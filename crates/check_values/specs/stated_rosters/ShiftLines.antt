-- The lines of shifts.
use Rattle.std.specs.Prelude.{ℕ, Bool, true, nat_le, nat_lt, length, List, [], ◌∷◌, ◌++◌, Option, Some, None, if◌then◌else◌, Result, Ok, Err}
use Rattle.model_rosters.specs.declared.instance.Group.{Group}
use Rattle.model_rosters.specs.declared.instance.Instance.{Instance}
use Rattle.model_rosters.specs.declared.instance.Shift.{Shift}
use Rattle.check_values.specs.declared.stated_rosters.fault.RosterFault.{RosterFault}
use Rattle.check_values.specs.declared.stated_rosters.fault.RosterFault.TheVariants.{UnknownLine, BadNumber, OutOfRange, TooManyShifts}
use Rattle.check_values.specs.stated_rosters.Fields.{is_number, group_at}
use Rattle.check_values.specs.stated_rosters.Steps.{◌>>=◌}

-- the words of a shift line behind the first
pub record ShiftLine : Type 0 where
  pub name : Option (List ℕ)
  pub word : List ℕ
  pub price : Option (List ℕ)

-- a shift's word, and perhaps a number
abbrev pub letters_words : Option (List ℕ) → List (List ℕ) → Option ShiftLine
letters_words name (word ∷ []) = Some (record { name = name; word = word; price = None })
letters_words name (word ∷ price ∷ []) = Some (record { name = name; word = word; price = Some price })
letters_words name _ = None

-- with groups the name of one stands before
abbrev pub named_words : List (List ℕ) → Option ShiftLine
named_words [] = None
named_words (name ∷ ws) = letters_words (Some name) ws

-- a shift's line: with groups a name of one, a word, and a number that counts for nothing
unfoldable pub shift_words : List Group → List (List ℕ) → Option ShiftLine
shift_words [] ws = letters_words None ws
shift_words (g ∷ gs) ws = named_words ws

-- the number of the group, or 0 where none is named
abbrev pub team_at : ℕ → Instance → Option (List ℕ) → Result ℕ RosterFault
team_at k i None = Ok 0
team_at k i (Some w) = group_at k i.grammar.names i.groups w

-- what stands behind the word is a number, or nothing
abbrev pub is_priced : Option (List ℕ) → Bool
is_priced None = true
is_priced (Some w) = is_number w

-- the word of a shift of a group; what stands behind it counts for nothing
unfoldable pub letters_of : ℕ → ℕ → List ℕ → Option (List ℕ) → Result Shift RosterFault
letters_of k group word price =
    if nat_lt 96 (length word) then Err (OutOfRange k)
    else (if is_priced price then Ok (record { group = group; word = word; price = 0 }) else Err (BadNumber k))

-- a further shift, of at most 64
unfoldable pub added : ℕ → Instance → List Shift → Option ShiftLine → Result (List Shift) RosterFault
added k i shifts None = Err (UnknownLine k)
added k i shifts (Some w) =
    if nat_le 64 (length shifts) then Err (TooManyShifts k)
    else (team_at k i w.name >>= λ group. letters_of k group w.word w.price >>= λ s. Ok (shifts ++ s ∷ []))

-- a line of a shift, behind its first word
abbrev pub shift_at : ℕ → Instance → List Shift → List (List ℕ) → Result (List Shift) RosterFault
shift_at k i shifts ws = added k i shifts (shift_words i.groups ws)
