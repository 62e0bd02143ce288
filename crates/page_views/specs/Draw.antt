-- What a page says of a roster.
use Rattle.std.specs.Prelude.{ℕ, ◌≡◌, None, Some, List, [], length, map, Option, IfSome}
use Rattle.model_rosters.specs.declared.grammar.CodeDef.{CodeDef}
use Rattle.model_rosters.specs.declared.instance.Cell.{Cell}
use Rattle.model_rosters.specs.declared.instance.Instance.{Instance}
use Rattle.model_rosters.specs.declared.instance.Shift.{Shift}
use Rattle.model_rosters.specs.Coverage.{covered, penalty}
use Rattle.model_rosters.specs.Folds.{Each, sum_n}
use Rattle.check_certificates.specs.certificate_laws.Accepted.{IsStated}
use Rattle.check_certificates.specs.RosterCauses.{duties, stated_prices}
use Rattle.page_labels.specs.Labels.{code_words, decimals_of}
use Rattle.page_labels.specs.declared.labels.Labels.{Labels}
use Rattle.page_parts.specs.Elements.{places, written}
use Rattle.page_parts.specs.declared.money.Money.{Money}
use Rattle.page_text.specs.Columns.{column_of}
use Rattle.page_text.specs.declared.column.CellCover.{CellCover}
use Rattle.page_text.specs.declared.figures.Figures.{Figures}
use Rattle.page_text.specs.Pages.{page}
use Rattle.page_text.specs.declared.content.Content.{Content}
use Rattle.text_reports.specs.Reports.{HasSoundShifts}
use Rattle.page_rosters.specs.AxisTimes.{axis_times}
use Rattle.page_rosters.specs.TablesOf.{tables_of}
use Rattle.page_views.specs.Compared.{IsCompared}
use Rattle.page_views.specs.declared.compare.Comparison.{Comparison}
use Rattle.page_views.specs.declared.roster.ShownRoster.{ShownRoster}
use Rattle.page_views.specs.Rows.{AreDerived, rows_of}
use Rattle.page_views.specs.Sums.{read_texts}
use Rattle.page_views.specs.declared.sums.Sums.{Sums}

-- a roster that can be shown: sound shifts that are allowed and have this cost, or none
pub record IsSoundShown (i : Instance) (r : ShownRoster) : Type 0 where
  pub shifts : HasSoundShifts i r.shifts
  pub none : r.cost ≡ None → r.shifts ≡ []
  pub stated : IfSome r.cost (IsStated i r.shifts)

-- a roster beside which another can be shown: sound shifts with a letter for each period of the day
pub record IsOldRoster (i : Instance) (old : List Shift) : Type 0 where
  pub shifts : HasSoundShifts i old
  pub whole : Each (λ (s : Shift). length s.word ≡ i.grammar.periods) old

-- how each cell is covered, where there is a roster
abbrev pub columns_of : Instance → ShownRoster → Option ℕ → List CellCover
columns_of i r None = []
columns_of i r (Some cost) = map (column_of i.grammar (duties r.shifts)) i.cells

-- what the stated prices and the penalties of all cells come to, where there is a roster
abbrev pub figures_of : Instance → ShownRoster → Option ℕ → Figures
figures_of i r None = record { cost = None; bound = r.bound; paid = 0; penalty = 0 }
figures_of i r (Some cost) = record {
  cost = Some cost;
  bound = r.bound;
  paid = sum_n (λ p. p) (stated_prices r.shifts);
  penalty = sum_n (λ (x : Cell). penalty x (covered i.grammar x (duties r.shifts))) i.cells;
}

-- for each code what it is called, or nothing
abbrev pub words_of : Labels → List CodeDef → List (List ℕ)
words_of d cs = map (code_words d.codes) (places (length cs))

-- what amounts are counted in, and their decimals
abbrev pub money_of : Labels → Money
money_of d = record { words = d.money; decimals = decimals_of d }

-- what the page shows of a roster under labels, where this differs from an old roster and the page is made
-- from texts with these sums
pub record IsContentBeside (s : Sums) (d : Labels) (i : Instance) (r : ShownRoster) (c : Comparison)
    (p : Content)
    : Type 0 where
  pub title : p.title ≡ d.title
  pub words : p.words ≡ words_of d i.grammar.codes
  pub money : p.money ≡ money_of d
  pub off : p.off ≡ d.off
  pub times : p.times ≡ axis_times d.clock i.grammar.periods
  pub stated : p.stated ≡ r.is_stated
  pub figures : p.figures ≡ figures_of i r r.cost
  pub changes : p.changes ≡ c.changes
  pub rows : p.rows ≡ rows_of i d c r.shifts
  pub derivations : AreDerived i p.rows p.derivations
  pub columns : p.columns ≡ columns_of i r r.cost
  pub tables : p.tables ≡ tables_of i d r.shifts (columns_of i r r.cost)
  pub read : p.read ≡ read_texts r.is_stated s

-- what the page shows of a roster under labels, beside an old roster where there is one
pub record IsContent (s : Sums) (d : Labels) (i : Instance) (r : ShownRoster) (old : Option (List Shift))
    (p : Content)
    : Type 0 where
  pub comparison : Comparison
  pub compared : IsCompared i.grammar.periods old r.shifts comparison
  pub beside : IsContentBeside s d i r comparison p

-- the page of a roster under labels, beside an old roster where there is one
pub record IsPage (s : Sums) (d : Labels) (i : Instance) (r : ShownRoster) (old : Option (List Shift))
    (output : List ℕ)
    : Type 0 where
  pub content : Content
  pub shows : IsContent s d i r old content
  pub text : output ≡ written (page i.grammar.periods i.grammar.codes content)
