-- What groups and codes are called.
use Rattle.std.specs.Prelude.{ℕ, None, Some, List, [], ◌∷◌, length, nat_lt, slice_get, if◌then◌else◌}
use Rattle.model_rosters.specs.declared.grammar.CodeDef.{CodeDef}
use Rattle.model_rosters.specs.declared.instance.Instance.{Instance}
use Rattle.text_certificates.specs.Written.{group_name}
use Rattle.page_labels.specs.Labels.{code_words, group_words, shift_name}
use Rattle.page_labels.specs.declared.labels.Labels.{Labels}

-- words, or a name where there are none
unfoldable pub called : List ℕ → List ℕ → List ℕ
called words name = if nat_lt 0 (length words) then words else name

-- a group by its label, or by its name
abbrev pub group_called : Instance → Labels → ℕ → List ℕ
group_called i d group = called (group_words d.groups group) (group_name i group)

-- who works the shift with a number, where it is said, else its group
abbrev pub row_called : Instance → Labels → ℕ → ℕ → List ℕ
row_called i d number group = called (shift_name d.shifts number) (group_called i d group)

-- the byte of a code with its words
unfoldable pub code_text : ℕ → List ℕ → List ℕ
code_text byte words = if nat_lt 0 (length words) then byte ∷ 32 ∷ words else byte ∷ []

-- the byte of the code at a place, and behind it its label, where it has one
abbrev pub code_called : List CodeDef → Labels → ℕ → List ℕ
code_called cs d place =
    elim (slice_get cs place) [ None ↦ [] | Some c ↦ code_text c.byte (code_words d.codes place) ]
