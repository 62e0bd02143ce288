-- The table of a roster's coverage, as comma-separated values.
use Rattle.std.specs.Prelude.{ℕ, ◌-◌, List, [], ◌∷◌, ◌++◌, codes, nat_eq, if◌then◌else◌}
use Rattle.std.specs.Fmt.{decimal}
use Rattle.std.specs.List.{flat_map}
use Rattle.csv.specs.Writing.{default_writer, row_text}
use Rattle.model_rosters.specs.declared.instance.Instance.{Instance}
use Rattle.page_labels.specs.Labels.{code_words, decimals_of}
use Rattle.page_labels.specs.declared.labels.Labels.{Labels}
use Rattle.page_text.specs.declared.column.CellCover.{CellCover}
use Rattle.page_csv.specs.Sheets.{amount_text, guarded, letter_at, marked, time_of}

-- a ceiling, or nothing where it allows as many employees as a roster may have
unfoldable pub ceiling_text : ℕ → List ℕ
ceiling_text n = if nat_eq n 64 then [] else decimal n

-- the fields of the record of a code in a period
unfoldable pub fields_of : Instance → Labels → CellCover → List (List ℕ)
fields_of i d c =
    guarded (letter_at i.grammar.codes c.code) ∷ guarded (code_words d.codes c.code) ∷ decimal c.period
    ∷ time_of d.clock (c.period - 1) ∷ time_of d.clock c.period ∷ decimal c.need ∷ decimal c.have ∷ decimal c.short
    ∷ decimal c.over ∷ decimal c.floor ∷ ceiling_text c.ceiling ∷ decimal c.penalty
    ∷ amount_text (decimals_of d) c.penalty ∷ []

-- what stands above the records
abbrev pub head_fields : List (List ℕ)
head_fields =
    codes "code" ∷ codes "name" ∷ codes "period" ∷ codes "begin" ∷ codes "end" ∷ codes "need" ∷ codes "have"
    ∷ codes "short" ∷ codes "over" ∷ codes "floor" ∷ codes "ceiling" ∷ codes "penalty" ∷ codes "amount" ∷ []

-- their record
unfoldable pub head_row : List ℕ
head_row = row_text default_writer head_fields

-- the record of a code in a period
abbrev pub cover_row : Instance → Labels → CellCover → List ℕ
cover_row i d c = row_text default_writer (fields_of i d c)

-- a record for each code that is needed and each period, in the order in which they are given
abbrev pub coverage_of : Instance → Labels → List CellCover → List ℕ
coverage_of i d covers = marked (head_row ++ flat_map (cover_row i d) covers)
