-- What the roster costs, and how good it is.
use Rattle.std.specs.Prelude.{ℕ, ◌≤◌, ◌+◌, ◌-◌, ◌/◌, ◌%◌, Option, None, Some, List, [], ◌∷◌, ◌++◌, All, Bool, true, ◌||◌, length, nat_eq, nat_lt, codes, if◌then◌else◌}
use Rattle.std.specs.List.{list_any}
use Rattle.model_rosters.specs.declared.grammar.CodeDef.{CodeDef}
use Rattle.page_parts.specs.Amounts.{amount}
use Rattle.page_parts.specs.Elements.{Element, each_from, marks, given, number}
use Rattle.page_parts.specs.Paints.{paint_of}
use Rattle.page_parts.specs.declared.money.Money.{Money}
use Rattle.page_text.specs.declared.column.CellCover.{CellCover}
use Rattle.page_text.specs.declared.figures.Figures.{Figures}
use Rattle.model_shift_figures.specs.Bounds.{saving_at}
use Rattle.model_shift_figures.specs.declared.bound.Saving.{Saving}
use Rattle.model_shift_figures.specs.declared.bound.Saving.TheVariants.{NoneLess, Unknown, AtMost}

-- the sentence of what a cheaper roster saves at most, with its share in tenths of a percent
unfoldable pub saves : Money → ℕ → ℕ → List Element
saves m sum permille =
    marks (codes "A cheaper roster saves at most ") ∷ amount m sum ++ marks (codes " (") ∷ number (permille / 10)
    ∷ marks (codes ".") ∷ number (permille % 10) ∷ marks (codes " %).") ∷ []

-- the sentence where nothing is proved of the cost
unfoldable pub unknown : List Element
unknown = marks (codes "Nothing is proved of the cost.") ∷ []

-- the sentence of a roster of least cost
unfoldable pub none_less : List Element
none_less = marks (codes "No allowed roster costs less.") ∷ []

-- the sentence of what a bound tells
unfoldable pub told : Money → Saving → List Element
told m NoneLess = none_less
told m Unknown = unknown
told m (AtMost sum permille) = saves m sum permille

-- the sentence of a roster that costs so much, where this is the bound
unfoldable pub gap : Money → ℕ → ℕ → List Element
gap m cost bound = told m (saving_at cost bound)

-- the sentence where there is no roster, but a bound
unfoldable pub no_roster : Money → ℕ → List Element
no_roster m bound =
    marks (codes "No roster is stated. Each allowed roster costs at least ") ∷ amount m bound
    ++ marks (codes ".") ∷ []

-- the sentence where no roster is allowed
unfoldable pub none_allowed : List Element
none_allowed = marks (codes "No roster is allowed.") ∷ []

unfoldable pub sentence_over : Money → Option ℕ → ℕ → List Element
sentence_over m None bound = no_roster m bound
sentence_over m (Some cost) bound = gap m cost bound

-- how good the roster is, where amounts are counted in these words
unfoldable pub sentence : Money → Option ℕ → Option ℕ → List Element
sentence m cost None = none_allowed
sentence m cost (Some bound) = sentence_over m cost bound

unfoldable pub amount_or_none : Money → Option ℕ → List Element
amount_or_none m (Some n) = amount m n
amount_or_none m None = marks (codes "none") ∷ []

-- a code in its colour
unfoldable pub chip : List CodeDef → ℕ → List Element
chip cs byte =
    marks (codes "<span class='chip ") ∷ marks (paint_of cs byte) ∷ marks (codes "'>") ∷ given (byte ∷ [])
    ∷ marks (codes "</span>") ∷ []

-- some column is of the code
abbrev pub is_demanded : ℕ → List CellCover → Bool
is_demanded code columns = list_any (λ (c : CellCover). nat_eq c.code code) columns

-- a sum with the penalty of a column, where it is of the code
unfoldable pub with_penalty : ℕ → ℕ → CellCover → ℕ
with_penalty code sum c = if nat_eq c.code code then sum + c.penalty else sum

-- a sum to which the penalties of a code are added
abbrev pub penalties : ℕ → List CellCover → ℕ → ℕ
penalties code [] sum = sum
penalties code (c ∷ cs) sum = penalties code cs (with_penalty code sum c)

-- the columns of at most 8 codes in at most 96 periods, each with the penalty of at most 64 employees
pub record AreDayColumns (columns : List CellCover) : Type 0 where
  pub few : length columns ≤ 768
  pub small : All (λ (c : CellCover). c.penalty ≤ 1280000) columns

unfoldable pub demanded_cost : Money → List CodeDef → List CellCover → ℕ → CodeDef → List Element
demanded_cost m cs columns place c =
    marks (codes "<div><dt>Penalty for ") ∷ chip cs c.byte
    ++ (marks (codes "</dt><dd>") ∷ amount m (penalties place columns 0) ++ marks (codes "</dd></div>") ∷ [])

unfoldable pub code_cost : Money → List CodeDef → List CellCover → ℕ → CodeDef → List Element
code_cost m cs columns place c = if is_demanded place columns then demanded_cost m cs columns place c else []

abbrev pub code_costs : Money → List CodeDef → List CellCover → List Element
code_costs m cs columns = each_from (code_cost m cs columns) 0 cs

-- what the shifts and the penalties come to
unfoldable pub both_sums : Money → Figures → List Element
both_sums m f =
    marks (codes "<div><dt>Paid for shifts</dt><dd>") ∷ amount m f.paid
    ++ (marks (codes "</dd></div><div><dt>Penalties</dt><dd>") ∷ amount m f.penalty
    ++ marks (codes "</dd></div>") ∷ [])

-- the same, where there is a roster
unfoldable pub sums : Money → Figures → Option ℕ → List Element
sums m f None = []
sums m f (Some cost) = both_sums m f

-- something is proved of the cost
abbrev pub is_told : Option ℕ → Option ℕ → Bool
is_told None bound = true
is_told (Some cost) None = true
is_told (Some cost) (Some bound) = nat_lt 0 bound || nat_eq cost 0

unfoldable pub bound_of : Money → Option ℕ → List Element
bound_of m bound =
    (marks (codes "<div><dt>Bound</dt><dd>") ∷ amount_or_none m bound) ++ marks (codes "</dd></div>") ∷ []

-- the bound, where something is proved of the cost
unfoldable pub bound_part : Money → Option ℕ → Option ℕ → List Element
bound_part m cost bound = if is_told cost bound then bound_of m bound else []

-- what the roster costs, where amounts are counted in these words
unfoldable pub costs : Money → List CodeDef → Figures → List CellCover → List Element
costs m cs f columns =
    (marks (codes "<dl><div><dt>Total cost</dt><dd>") ∷ amount_or_none m f.cost)
    ++ (marks (codes "</dd></div>") ∷ (bound_part m f.cost f.bound
    ++ (sums m f f.cost ++ (code_costs m cs columns ++ marks (codes "</dl>\n") ∷ []))))
