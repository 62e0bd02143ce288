-- The lines of an old text's shifts, for a day.
use Rattle.std.specs.Prelude.{ℕ, ◌+◌, Bool, true, false, nat_le, nat_lt, length, position, List, [], ◌∷◌, ◌++◌, Option, Some, None, if◌then◌else◌, Result, Ok, Err}
use Rattle.model_rosters.specs.declared.instance.Group.{Group}
use Rattle.model_rosters.specs.declared.instance.Instance.{Instance}
use Rattle.text_lines.specs.Numbers.{natural_of}
use Rattle.text_lines.specs.declared.number.NumberFault.{NumberFault}
use Rattle.text_lines.specs.declared.number.NumberFault.TheVariants.{Form, Wide}
use Rattle.text_proof_pieces.specs.Fields.{has_name}
use Rattle.text_old_shifts.specs.declared.fault.OldFault.{OldFault}
use Rattle.text_old_shifts.specs.declared.fault.OldFault.TheVariants.{UnknownLine, BadNumber, OutOfRange, TooManyShifts}
use Rattle.text_old_shifts.specs.declared.said.SaidShifts.{SaidShifts}

-- the words of a shift's line behind the first
pub record ShiftLine : Type 0 where
  pub name : Option (List ℕ)
  pub word : List ℕ
  pub price : Option (List ℕ)

-- a shift's word, and perhaps a number
abbrev pub letters_words : Option (List ℕ) → List (List ℕ) → Option ShiftLine
letters_words name (word ∷ []) = Some (record { name = name; word = word; price = None })
letters_words name (word ∷ price ∷ []) = Some (record { name = name; word = word; price = Some price })
letters_words name _ = None

-- the name of a group before them
abbrev pub named_words : List (List ℕ) → Option ShiftLine
named_words [] = None
named_words (name ∷ ws) = letters_words (Some name) ws

unfoldable pub shift_words : Bool → List (List ℕ) → Option ShiftLine
shift_words false ws = letters_words None ws
shift_words true ws = named_words ws

abbrev pub has_form : Result ℕ NumberFault → Bool
has_form (Ok n) = true
has_form (Err Form) = false
has_form (Err Wide) = true

-- the word is a number without a sign, of whatever size
unfoldable pub is_number : List ℕ → Bool
is_number w = has_form (natural_of w)

-- what stands behind a shift's word is a number, or nothing
abbrev pub is_priced : Option (List ℕ) → Bool
is_priced None = true
is_priced (Some w) = is_number w

-- the number after that of a place
abbrev pub numbered : Option ℕ → Option ℕ
numbered None = None
numbered (Some place) = Some (place + 1)

-- the number of the group of a name, from 1, where one is named that there is
abbrev pub named_team : List (List ℕ) → List Group → Option (List ℕ) → Option ℕ
named_team names groups None = None
named_team names groups (Some w) = numbered (position (has_name names w) groups)

-- the group of a shift: 0 on a day without groups, where a name is dropped; else that of the name, if there is one
abbrev pub team_in : List (List ℕ) → List Group → Option (List ℕ) → Option ℕ
team_in names [] name = Some 0
team_in names (g ∷ gs) name = named_team names (g ∷ gs) name

unfoldable pub team_of : Instance → Option (List ℕ) → Option ℕ
team_of i name = team_in i.grammar.names i.groups name

-- one shift more, without a price; or, where the day has no group for it, one line more that is passed over
unfoldable pub with_line : SaidShifts → Option ℕ → List ℕ → SaidShifts
with_line s None word = record s { passed = s.passed + 1 }
with_line s (Some group) word =
    record s { shifts = s.shifts ++ record { group = group; word = word; price = 0 } ∷ [] }

-- a line of a shift, of which there are at most 64
unfoldable pub added : ℕ → Instance → SaidShifts → Option ShiftLine → Result SaidShifts OldFault
added k i s None = Err (UnknownLine k)
added k i s (Some w) =
    if nat_le 64 (length s.shifts + s.passed) then Err (TooManyShifts k)
    else (if nat_lt 96 (length w.word) then Err (OutOfRange k)
    else (if is_priced w.price then Ok (with_line s (team_of i w.name) w.word) else Err (BadNumber k)))
