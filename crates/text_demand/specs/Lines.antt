-- The lines of a demand text.
use Rattle.std.specs.Prelude.{ℕ, Bool, not, ◌==◌, List, [], ◌∷◌, ◌++◌, codes, Result, Ok, Err, if◌then◌else◌}
use Rattle.std.specs.List.{list_any}
use Rattle.std.specs.Str.{bytes_eq}
use Rattle.model_rosters.specs.declared.grammar.Grammar.{Grammar}
use Rattle.text_lines.specs.Lines.{TextLine}
use Rattle.text_lines.specs.declared.line.BadByte as bad
use Rattle.text_demand_lines.specs.declared.draft.Draft.{Draft}
use Rattle.text_demand_lines.specs.declared.draft.Need.{Need}
use Rattle.text_demand_lines.specs.declared.draft.Bound.{Bound}
use Rattle.text_demand_lines.specs.declared.fault.DemandFault.{DemandFault}
use Rattle.text_demand_lines.specs.declared.fault.DemandFault.TheVariants.{BadByte, UnknownLine, Twice, NoNeed}
use Rattle.text_demand_lines.specs.Steps.{◌>>=◌}
use Rattle.text_demand_lines.specs.Fields.{number_at, work_at}
use Rattle.text_demand_lines.specs.Teams.{heads_at, group_at}
use Rattle.text_demand.specs.Counts.{counts_at}

abbrev pub has_need : List Need → ℕ → Bool
has_need needs c = list_any (λ (n : Need). n.code == c) needs

abbrev pub has_bound : List Bound → ℕ → Bool
has_bound bounds c = list_any (λ (b : Bound). b.code == c) bounds

-- the need of a work code: a new one, what a difference costs, and a number for each period
unfoldable pub need_of : ℕ → Grammar → List Need → List ℕ → List ℕ → List ℕ → List (List ℕ)
    → Result (List Need) DemandFault
need_of k g needs code a b ws =
    work_at k g.codes code >>= λ c. if has_need needs c then Err (Twice k) else (do
      under ← number_at k 0 10000 a
      over ← number_at k 0 10000 b
      counts ← counts_at k g.periods ws
      Ok (needs ++ record { code = c; under = under; over = over; counts = counts } ∷ []))

unfoldable pub need_at : ℕ → Grammar → List Need → List (List ℕ) → Result (List Need) DemandFault
need_at k g needs (code ∷ a ∷ b ∷ ws) = need_of k g needs code a b ws
need_at k g needs _ = Err (UnknownLine k)

-- a bound in each period for a work code that has a need line and no such bound
unfoldable pub bound_at : ℕ → Grammar → List Need → List Bound → List (List ℕ)
    → Result (List Bound) DemandFault
bound_at k g needs bounds (code ∷ ws) =
    work_at k g.codes code >>= λ c. if not (has_need needs c) then Err (NoNeed k)
    else (if has_bound bounds c then Err (Twice k)
    else (counts_at k g.periods ws >>= λ counts. Ok (bounds ++ record { code = c; counts = counts } ∷ [])))
bound_at k g needs bounds [] = Err (UnknownLine k)

-- a line, by its first word
unfoldable pub line_at : ℕ → Grammar → Draft → List (List ℕ) → Result Draft DemandFault
line_at k g d [] = Err (UnknownLine k)
line_at k g d (w ∷ ws) =
    if bytes_eq w (codes "heads") then heads_at k d ws
    else (if bytes_eq w (codes "group") then group_at k g d ws
    else (if bytes_eq w (codes "need") then (need_at k g d.needs ws >>= λ n. Ok (record d { needs = n }))
    else (if bytes_eq w (codes "least") then (bound_at k g d.needs d.least ws >>= λ b. Ok
    (record d { least = b }))
    else (if bytes_eq w (codes "most") then (bound_at k g d.needs d.most ws >>= λ b. Ok
    (record d { most = b }))
    else Err (UnknownLine k)))))

-- a line, whose bad byte comes before its other faults
abbrev pub item_at : Grammar → Draft → Result TextLine bad.BadByte → Result Draft DemandFault
item_at g d (Ok line) = line_at line.number g d line.words
item_at g d (Err b) = Err (BadByte b.line)
