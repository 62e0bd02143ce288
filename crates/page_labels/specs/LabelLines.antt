-- What the lines of a labels text say.
use Rattle.std.specs.Prelude.{ℕ, Bool, true, false, ◌&&◌, ◌||◌, List, [], ◌∷◌, ◌++◌, codes, is_some, length, nat_eq, nat_lt, slice_get, Option, Some, None, Result, Ok, Err, if◌then◌else◌}
use Rattle.std.specs.Str.{bytes_eq}
use Rattle.model_rosters.specs.declared.grammar.CodeDef.{CodeDef}
use Rattle.model_rosters.specs.declared.instance.Instance.{Instance}
use Rattle.text_lines.specs.Fields.{number_at}
use Rattle.page_labels.specs.Clocks.{clock_of}
use Rattle.page_labels.specs.Fields.{code_at, group_at, words_at}
use Rattle.page_labels.specs.Labels.{has_code, has_group, has_paid, has_shift, is_paid}
use Rattle.page_labels.specs.Steps.{◌>>=◌}
use Rattle.page_labels.specs.declared.fault.LabelFault.{LabelFault}
use Rattle.page_labels.specs.declared.fault.LabelFault.TheVariants.{UnknownLine, BadNumber, OutOfRange, BadName, Twice}
use Rattle.page_labels.specs.declared.labels.Labels.{Labels}

-- the title
unfoldable pub title_at : ℕ → Labels → List (List ℕ) → Result Labels LabelFault
title_at k d ws =
    words_at k ws >>= λ t. if nat_lt 0 (length d.title) then Err (Twice k) else Ok (record d { title = t })

-- what costs are counted in
unfoldable pub money_at : ℕ → Labels → List (List ℕ) → Result Labels LabelFault
money_at k d ws =
    words_at k ws >>= λ t. if nat_lt 0 (length d.money) then Err (Twice k) else Ok (record d { money = t })

-- when the first period begins, and how many minutes a period has
unfoldable pub clock_at : ℕ → Labels → List (List ℕ) → Result Labels LabelFault
clock_at k d (w ∷ v ∷ []) =
    clock_of k w v >>= λ c. if is_some d.clock then Err (Twice k) else Ok (record d { clock = Some c })
clock_at k d _ = Err (UnknownLine k)

-- what a code is called
unfoldable pub code_line_at : ℕ → List CodeDef → Labels → List (List ℕ) → Result Labels LabelFault
code_line_at k defs d [] = Err (UnknownLine k)
code_line_at k defs d (w ∷ ws) =
    code_at k defs w >>= λ c. words_at k ws >>= λ t. if has_code d.codes c then Err (Twice k)
    else Ok (record d { codes = d.codes ++ record { code = c; words = t } ∷ [] })

-- what a group is called
unfoldable pub group_line_at : ℕ → Instance → Labels → List (List ℕ) → Result Labels LabelFault
group_line_at k i d [] = Err (UnknownLine k)
group_line_at k i d (w ∷ ws) =
    group_at k i.grammar.names i.groups w >>= λ n. words_at k ws >>= λ t.
    if has_group d.groups n then Err (Twice k)
    else Ok (record d { groups = d.groups ++ record { group = n; words = t } ∷ [] })

unfoldable pub flag_at : ℕ → List ℕ → Result Bool LabelFault
flag_at k w =
    if bytes_eq w (codes "yes") then Ok true
    else (if bytes_eq w (codes "no") then Ok false else Err (UnknownLine k))

-- the code at a place is one of work
abbrev pub works : List CodeDef → ℕ → Bool
works defs c = elim (slice_get defs c) [ None ↦ false | Some def ↦ def.work ]

-- the byte of the code at a place
abbrev pub code_byte : List CodeDef → ℕ → ℕ
code_byte defs c = elim (slice_get defs c) [ None ↦ 0 | Some def ↦ def.byte ]

-- the code with the byte is time off
abbrev pub is_time_off : Option ℕ → ℕ → Bool
is_time_off off byte = elim off [ None ↦ false | Some code ↦ nat_eq code byte ]

-- whether the periods of a code count as paid, whose byte is this; those of time off do not
unfoldable pub said_paid : ℕ → Labels → ℕ → ℕ → Bool → Result Labels LabelFault
said_paid k d c byte said =
    if said && is_time_off d.off byte then Err (BadName k)
    else (if has_paid d.paid c then Err (Twice k)
    else Ok (record d { paid = d.paid ++ record { code = c; paid = said } ∷ [] }))

-- whether the periods of a code that is no work count as paid
unfoldable pub paid_at : ℕ → List CodeDef → Labels → List (List ℕ) → Result Labels LabelFault
paid_at k defs d (w ∷ v ∷ []) =
    code_at k defs w >>= λ c. if works defs c then Err (BadName k)
    else (flag_at k v >>= λ said. said_paid k d c (code_byte defs c) said)
paid_at k defs d _ = Err (UnknownLine k)

-- the code that is time off, neither one of work nor one that counts as paid
unfoldable pub off_at : ℕ → List CodeDef → Labels → List (List ℕ) → Result Labels LabelFault
off_at k defs d (w ∷ []) =
    code_at k defs w >>= λ c. if works defs c || is_paid d.paid c then Err (BadName k)
    else (if is_some d.off then Err (Twice k) else Ok (record d { off = Some (code_byte defs c) }))
off_at k defs d _ = Err (UnknownLine k)

-- how many decimals amounts have
unfoldable pub decimals_at : ℕ → Labels → List (List ℕ) → Result Labels LabelFault
decimals_at k d (w ∷ []) =
    number_at (BadNumber k) (OutOfRange k) 0 4 w >>= λ n. if is_some d.decimals then Err (Twice k)
    else Ok (record d { decimals = Some n })
decimals_at k d _ = Err (UnknownLine k)

-- the word and the name of a shift with this number and this group
unfoldable pub worded_at : ℕ → Labels → ℕ → ℕ → List (List ℕ) → Result Labels LabelFault
worded_at k d n g [] = Err (UnknownLine k)
worded_at k d n g (w ∷ ws) =
    words_at k ws >>= λ t. if has_shift d.shifts n then Err (Twice k)
    else Ok (record d { shifts = d.shifts ++ record { line = k; number = n; group = g; word = w; name = t } ∷ [] })

-- the group of a shift with this number, on a day with groups
unfoldable pub grouped_at : ℕ → Instance → Labels → ℕ → List (List ℕ) → Result Labels LabelFault
grouped_at k i d n [] = Err (UnknownLine k)
grouped_at k i d n (w ∷ ws) = group_at k i.grammar.names i.groups w >>= λ g. worded_at k d n g ws

-- who works a shift: its number, on a day with groups its group, its word, and the name
unfoldable pub shift_at : ℕ → Instance → Labels → List (List ℕ) → Result Labels LabelFault
shift_at k i d [] = Err (UnknownLine k)
shift_at k i d (w ∷ ws) =
    number_at (BadNumber k) (OutOfRange k) 1 4294967295 w >>= λ n.
    if nat_eq (length i.groups) 0 then worded_at k d n 0 ws else grouped_at k i d n ws

-- a line of what is paid, of time off, of a shift or of decimals
unfoldable pub further_at : ℕ → Instance → Labels → List ℕ → List (List ℕ) → Result Labels LabelFault
further_at k i d w ws =
    if bytes_eq w (codes "paid") then paid_at k i.grammar.codes d ws
    else (if bytes_eq w (codes "off") then off_at k i.grammar.codes d ws
    else (if bytes_eq w (codes "shift") then shift_at k i d ws
    else (if bytes_eq w (codes "decimals") then decimals_at k d ws else Err (UnknownLine k))))

-- a line of a code or of a group, or a further one
unfoldable pub other_at : ℕ → Instance → Labels → List ℕ → List (List ℕ) → Result Labels LabelFault
other_at k i d w ws =
    if bytes_eq w (codes "code") then code_line_at k i.grammar.codes d ws
    else (if bytes_eq w (codes "group") then group_line_at k i d ws else further_at k i d w ws)

-- a line by its first word
unfoldable pub line_at : ℕ → Instance → Labels → List (List ℕ) → Result Labels LabelFault
line_at k i d [] = Err (UnknownLine k)
line_at k i d (w ∷ ws) =
    if bytes_eq w (codes "title") then title_at k d ws
    else (if bytes_eq w (codes "clock") then clock_at k d ws
    else (if bytes_eq w (codes "money") then money_at k d ws else other_at k i d w ws))
