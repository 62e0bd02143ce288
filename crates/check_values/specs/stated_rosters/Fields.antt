-- The words of a line: numbers and names of groups.
use Rattle.std.specs.Prelude.{ℕ, ◌+◌, Bool, true, false, position, List, Option, Some, None, Result, Ok, Err}
use Rattle.text_lines.specs.Numbers.{natural_of}
use Rattle.text_lines.specs.declared.number.NumberFault.{NumberFault}
use Rattle.text_lines.specs.declared.number.NumberFault.TheVariants.{Form, Wide}
use Rattle.model_rosters.specs.declared.instance.Group.{Group}
use Rattle.text_proof_pieces.specs.Fields.{has_name}
use Rattle.check_values.specs.declared.stated_rosters.fault.RosterFault.{RosterFault}
use Rattle.check_values.specs.declared.stated_rosters.fault.RosterFault.TheVariants.{NoName}

abbrev pub has_form : Result ℕ NumberFault → Bool
has_form (Ok n) = true
has_form (Err Form) = false
has_form (Err Wide) = true

-- the word is a number without a sign, of whatever size
unfoldable pub is_number : List ℕ → Bool
is_number w = has_form (natural_of w)

-- the number after that of the place that was found
abbrev pub numbered_or : ℕ → Option ℕ → Result ℕ RosterFault
numbered_or k (Some place) = Ok (place + 1)
numbered_or k None = Err (NoName k)

-- the number of the group of a name, from 1
unfoldable pub group_at : ℕ → List (List ℕ) → List Group → List ℕ → Result ℕ RosterFault
group_at k names groups w = numbered_or k (position (has_name names w) groups)
