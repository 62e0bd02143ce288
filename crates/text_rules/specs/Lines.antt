-- The lines of a rules text.
use Rattle.std.specs.Prelude.{ℕ, Bool, true, false, ◌&&◌, ◌||◌, ◌==◌, not, List, [], ◌∷◌, ◌++◌, length, codes, nat_le, slice_index, count_by, is_some, Some, Result, Ok, Err, if◌then◌else◌}
use Rattle.std.specs.List.{list_any}
use Rattle.std.specs.Str.{bytes_eq}
use Rattle.model_rosters.specs.declared.grammar.CodeDef.{CodeDef}
use Rattle.model_rosters.specs.Names.{is_code_byte, is_name}
use Rattle.text_lines.specs.Lines.{TextLine}
use Rattle.text_lines.specs.declared.line.BadByte as bad
use Rattle.text_rules.specs.declared.fault.Limit.TheVariants as limits
use Rattle.text_rules.specs.declared.fault.RulesFault.{RulesFault}
use Rattle.text_rules.specs.declared.fault.RulesFault.TheVariants.{BadByte, BadName, TooMany, Twice, UnknownLine}
use Rattle.text_rules.specs.declared.draft.Draft.{Draft}
use Rattle.text_rules.specs.Steps.{◌>>=◌, each}
use Rattle.text_rules.specs.Fields.{number_at}
use Rattle.text_rules.specs.RuleLine.{rule_at}

-- the byte is one of a code
abbrev pub is_declared : List CodeDef → ℕ → Bool
is_declared defs b = list_any (λ d. d.byte == b) defs

-- a code that a line declares, after the codes so far
unfoldable pub declare_at : ℕ → Bool → List CodeDef → List ℕ → Result (List CodeDef) RulesFault
declare_at k work defs w =
    if not (length w == 1) || not (is_code_byte (slice_index w 0)) then Err (BadName k)
    else (if is_declared defs (slice_index w 0) then Err (Twice k)
    else (if nat_le 32 (length defs) then Err (TooMany k limits.Codes 32)
    else (if work && nat_le 8 (count_by (λ d. d.work) defs) then Err (TooMany k limits.Work 8)
    else Ok (defs ++ record { byte = slice_index w 0; work = work } ∷ []))))

-- the codes of a line, one or more
unfoldable pub codes_at : ℕ → Bool → Draft → List (List ℕ) → Result Draft RulesFault
codes_at k work d [] = Err (UnknownLine k)
codes_at k work d (w ∷ ws) =
    each (declare_at k work) d.codes (w ∷ ws) >>= λ defs. Ok (record d { codes = defs })

-- the number of periods, which is in range before it is asked whether it was said
unfoldable pub periods_at : ℕ → Draft → List (List ℕ) → Result Draft RulesFault
periods_at k d (n ∷ []) = number_at k 1 96 n >>= λ p. if is_some d.periods then Err (Twice k) else Ok
    (record d { periods = Some p })
periods_at k d _ = Err (UnknownLine k)

-- the start name
unfoldable pub start_at : ℕ → Draft → List (List ℕ) → Result Draft RulesFault
start_at k d (n ∷ []) = if not (is_name n) then Err (BadName k) else
    (if is_some d.start then Err (Twice k) else Ok
    (record d { start = Some (record { line = k; name = n }) }))
start_at k d _ = Err (UnknownLine k)

-- a line, by its first word
unfoldable pub line_at : ℕ → Draft → List (List ℕ) → Result Draft RulesFault
line_at k d [] = Err (UnknownLine k)
line_at k d (w ∷ ws) =
    if bytes_eq w (codes "periods") then periods_at k d ws
    else (if bytes_eq w (codes "work") then codes_at k true d ws
    else (if bytes_eq w (codes "idle") then codes_at k false d ws
    else (if bytes_eq w (codes "start") then start_at k d ws
    else (if bytes_eq w (codes "rule") then (rule_at k d.codes d.rules ws >>= λ r. Ok
    (record d { rules = r }))
    else Err (UnknownLine k)))))

-- a line, whose bad byte comes before its other faults
abbrev pub item_at : Draft → Result TextLine bad.BadByte → Result Draft RulesFault
item_at d (Ok line) = line_at line.number d line.words
item_at d (Err b) = Err (BadByte b.line)
