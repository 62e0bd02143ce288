-- What the first line says.
use Rattle.std.specs.Prelude.{ℕ, Bool, true, false, ◌&&◌, ◌||◌, not, nat_eq, nat_lt, List, [], ◌∷◌, ◌++◌, codes as text, drop, length, slice_index_or, Option, None, Some, Result, Ok, Err, if◌then◌else◌}
use Rattle.std.specs.List.{list_any, starts_with}
use Rattle.std.specs.Str.{bytes_eq}
use Rattle.plan_meaning.specs.declared.plan.Need.{Need}
use Rattle.plan_meaning.specs.declared.plan.Plan.{Plan}
use Rattle.plan_meaning.specs.declared.plan.PlanCode.{PlanCode}
use Rattle.plan_cells.specs.Cells.{space}
use Rattle.plan_forecast.specs.declared.fault.ForecastFault.{ForecastFault}
use Rattle.plan_forecast.specs.declared.fault.ForecastFault.TheVariants.{Heading}
use Rattle.plan_forecast.specs.declared.fault.HeadingFault.TheVariants as heading
use Rattle.plan_forecast.specs.declared.table.Asked.{Asked}
use Rattle.plan_forecast.specs.declared.table.Kind.{Kind}
use Rattle.plan_forecast.specs.declared.table.Kind.TheVariants as kind
use Rattle.plan_forecast.specs.declared.called.Way.{Way}
use Rattle.plan_forecast.specs.declared.called.Way.TheVariants.{ByCode, ByName}
use Rattle.plan_forecast.specs.Steps.{◌>>=◌, each}

-- ---- titles

-- a text of one word
unfoldable pub is_one_word : List ℕ → Bool
is_one_word w = nat_lt 0 (length w) && not (list_any (λ (b : ℕ). nat_eq b space) w)

-- `least` or `most`
unfoldable pub is_bound : List ℕ → Bool
is_bound w = bytes_eq w (text "least") || bytes_eq w (text "most")

-- where spaces part cells, `least` and `most` go with the heading of one word before
abbrev pub goes_with : ℕ → List ℕ → List ℕ → Bool
goes_with separator w next = nat_eq separator space && is_one_word w && is_bound next

-- the headings of the cells behind the first
abbrev pub titles : ℕ → List (List ℕ) → List (List ℕ)
titles separator [] = []
titles separator (c ∷ []) = c ∷ []
titles separator (c ∷ d ∷ cs) =
    if goes_with separator c d then (c ++ 32 ∷ d) ∷ titles separator cs else c ∷ titles separator (d ∷ cs)

-- ---- what a heading asks

-- what stands behind a code or a name
unfoldable pub suffix : Kind → List ℕ
suffix kind.Need = []
suffix kind.Least = text " least"
suffix kind.Most = text " most"

-- the heading is this, and then how many of it are asked
unfoldable pub is_title : List ℕ → Kind → List ℕ → Bool
is_title base k title = starts_with nat_eq title base && bytes_eq (drop (length base) title) (suffix k)

-- what a heading may call a code
unfoldable pub calls : Way → Kind → List ℕ → PlanCode → Bool
calls ByCode k title c = c.work && is_title (c.code ∷ []) k title
calls ByName k title c = c.work && is_title c.words k title

-- the first code of work that a heading calls so
abbrev pub called : Way → Kind → List ℕ → List PlanCode → Option Asked
called way k title [] = None
called way k title (c ∷ cs) =
    if calls way k title c then Some (record { code = c.code; kind = k }) else called way k title cs

abbrev pub or_else : {A : Type 0} → Option A → Option A → Option A
or_else (Some x) other = Some x
or_else None other = other

-- ... with how many of it, as employees that are needed first
abbrev pub called_so : Way → List ℕ → List PlanCode → Option Asked
called_so way title cs =
    or_else (called way kind.Need title cs)
    (or_else (called way kind.Least title cs) (called way kind.Most title cs))

-- what a heading asks: a code goes before a name
abbrev pub asked_by : List PlanCode → List ℕ → Option Asked
asked_by cs title = or_else (called_so ByCode title cs) (called_so ByName title cs)

-- ---- headings

abbrev pub same_kind : Kind → Kind → Bool
same_kind kind.Need kind.Need = true
same_kind kind.Least kind.Least = true
same_kind kind.Most kind.Most = true
same_kind _ _ = false

-- a heading asks this
abbrev pub asks : ℕ → Kind → Option Asked → Bool
asks code k None = false
asks code k (Some a) = nat_eq a.code code && same_kind a.kind k

-- the code has a need line
abbrev pub has_need : List Need → ℕ → Bool
has_need needs code = list_any (λ (n : Need). nat_eq n.code code) needs

-- what was found: a code with a need line that no heading before asks so
unfoldable pub found_at : ℕ → Plan → List (Option Asked) → List ℕ → Option Asked
    → Result (List (Option Asked)) ForecastFault
found_at k p hs title None = Err (Heading k (heading.NoCode title))
found_at k p hs title (Some a) =
    if not (has_need p.needs a.code) then Err (Heading k (heading.NoNeed title a.code))
    else (if list_any (asks a.code a.kind) hs then Err (Heading k (heading.Twice a.code a.kind))
    else Ok (hs ++ Some a ∷ []))

-- one more heading; an empty one asks nothing
unfoldable pub heading_at : ℕ → Plan → List (Option Asked) → List ℕ → Result (List (Option Asked)) ForecastFault
heading_at k p hs title =
    if nat_eq (length title) 0 then Ok (hs ++ None ∷ []) else found_at k p hs title (asked_by p.codes title)

-- each need line has a column, or the first that has none
abbrev pub complete : ℕ → List (Option Asked) → List Need → Result Unit ForecastFault
complete k hs [] = Ok tt
complete k hs (n ∷ ns) =
    if list_any (asks n.code kind.Need) hs then complete k hs ns else Err (Heading k (heading.Missing n.code))

abbrev pub first_cell : List (List ℕ) → List ℕ
first_cell cells = slice_index_or cells 0 []

-- the word `time` stands first
unfoldable pub time_word_at : ℕ → List ℕ → Result Unit ForecastFault
time_word_at k cell = if bytes_eq cell (text "time") then Ok tt else Err (Heading k (heading.NoTime cell))

-- all headings
abbrev pub all_headings : ℕ → Plan → List (List ℕ) → Result (List (Option Asked)) ForecastFault
all_headings k p ts = each (heading_at k p) [] ts

-- the headings behind the word `time`, with a column for each need line
unfoldable pub headings_at : ℕ → Plan → ℕ → List (List ℕ) → Result (List (Option Asked)) ForecastFault
headings_at k p separator cells = do
  _ ← time_word_at k (first_cell cells)
  hs ← all_headings k p (titles separator (drop 1 cells))
  _ ← complete k hs p.needs
  Ok hs
