-- The words of a line: texts, codes and names of groups.
use Rattle.std.specs.Prelude.{ℕ, ◌+◌, Bool, false, ◌==◌, not, List, [], ◌∷◌, ◌++◌, length, nat_eq, nat_lt, position, slice_get, slice_index, Option, Some, None, Result, Ok, Err, if◌then◌else◌}
use Rattle.std.specs.Str.{bytes_eq}
use Rattle.model_rosters.specs.declared.grammar.CodeDef.{CodeDef}
use Rattle.model_rosters.specs.declared.instance.Group.{Group}
use Rattle.text_lines.specs.Written.{tail}
use Rattle.page_labels.specs.declared.fault.LabelFault.{LabelFault}
use Rattle.page_labels.specs.declared.fault.LabelFault.TheVariants.{UnknownLine, OutOfRange, UnknownCode, NoName}

-- words with one space between them
abbrev pub joined : List (List ℕ) → List ℕ
joined [] = []
joined (w ∷ ws) = w ++ tail ws

-- words of 1 to 60 bytes
unfoldable pub checked : ℕ → List ℕ → Result (List ℕ) LabelFault
checked k text =
    if nat_eq (length text) 0 then Err (UnknownLine k)
    else (if nat_lt 60 (length text) then Err (OutOfRange k) else Ok text)

abbrev pub words_at : ℕ → List (List ℕ) → Result (List ℕ) LabelFault
words_at k ws = checked k (joined ws)

-- the place that was found, or else this fault
abbrev pub found_or : LabelFault → Option ℕ → Result ℕ LabelFault
found_or e (Some c) = Ok c
found_or e None = Err e

-- the number of a code, which a word of one byte says
unfoldable pub code_at : ℕ → List CodeDef → List ℕ → Result ℕ LabelFault
code_at k defs w =
    if not (length w == 1) then Err (UnknownCode k)
    else found_or (UnknownCode k) (position (λ d. d.byte == slice_index w 0) defs)

-- a group's name is the word
abbrev pub has_name : List (List ℕ) → List ℕ → Group → Bool
has_name names w g = elim (slice_get names g.name) [ None ↦ false | Some name ↦ bytes_eq name w ]

-- the number after that of the place that was found
abbrev pub numbered_or : LabelFault → Option ℕ → Result ℕ LabelFault
numbered_or e (Some place) = Ok (place + 1)
numbered_or e None = Err e

-- the number of the group of a name, from 1
unfoldable pub group_at : ℕ → List (List ℕ) → List Group → List ℕ → Result ℕ LabelFault
group_at k names groups w = numbered_or (NoName k) (position (has_name names w) groups)
