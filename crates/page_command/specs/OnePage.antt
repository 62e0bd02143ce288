-- The same texts have the same page, but for the trees of the derivations.
use Rattle.std.specs.Prelude.{ℕ, ◌≡◌, ◌⊎◌, List, [], ◌∷◌, Some}
use Rattle.model_rosters.specs.declared.grammar.CodeDef.{CodeDef}
use Rattle.page_parts.specs.Elements.{written}
use Rattle.page_text.specs.Pages.{page}
use Rattle.page_text.specs.declared.content.Content.{Content}
use Rattle.page_text.specs.declared.row.Row.{Row}
use Rattle.command_shelf.specs.Shelf.{Texts}
use Rattle.page_derived_rules.specs.RuledTrees.{AreRuledAtOnePrice}
use Rattle.page_command.specs.Check.{AnswersBeside, AnswersLabelled, AnswersShown}
use Rattle.page_command.specs.Dated.{AnswersDated}
use Rattle.page_views.specs.declared.kind.FirstWord.{FirstWord}
use Rattle.page_views.specs.declared.kind.CalendarDay.{CalendarDay}

-- for each row two derivations of its word, at one price
abbrev pub AreTreesOfRows : List Row → List (List ℕ) → List (List ℕ) → Type 0
AreTreesOfRows [] [] [] = Unit {0}
AreTreesOfRows (r ∷ rs) (a ∷ texts) (b ∷ bs) = AreRuledAtOnePrice r.word a b × AreTreesOfRows rs texts bs
AreTreesOfRows _ _ _ = ⊥

-- the same content, but for the trees of the derivations
pub record IsSameButTrees (c d : Content) : Type 0 where
  pub title : c.title ≡ d.title
  pub words : c.words ≡ d.words
  pub money : c.money ≡ d.money
  pub off : c.off ≡ d.off
  pub times : c.times ≡ d.times
  pub stated : c.stated ≡ d.stated
  pub figures : c.figures ≡ d.figures
  pub changes : c.changes ≡ d.changes
  pub rows : c.rows ≡ d.rows
  pub columns : c.columns ≡ d.columns
  pub tables : c.tables ≡ d.tables
  pub read : c.read ≡ d.read
  pub derivations : AreTreesOfRows d.rows c.derivations d.derivations

-- two pages of one day, the same but for the trees of the derivations
pub record ArePagesButTrees (a b : List ℕ) : Type 0 where
  pub periods : ℕ
  pub codes : List CodeDef
  pub one : Content
  pub other : Content
  pub same : IsSameButTrees one other
  pub first : a ≡ written (page periods codes one)
  pub second : b ≡ written (page periods codes other)

-- the same text, but for the trees of the derivations of a page
abbrev pub AreSameButTrees : List ℕ → List ℕ → Type 0
AreSameButTrees a b = (a ≡ b) ⊎ ArePagesButTrees a b

-- whatever two answers there are to the same texts, their statuses are equal, and what is said is equal
-- too, but for the trees of the derivations of a page
abbrev pub HaveOnePage : Type 0
HaveOnePage =
    (w : FirstWord) (held : Texts) (rules demand proof : List ℕ) (s t : ℕ) (a b : List ℕ)
    → AnswersShown w (Some held) rules demand proof s a → AnswersShown w (Some held) rules demand proof t b
    → (s ≡ t) × AreSameButTrees a b

-- the same of two answers to the same four texts
abbrev pub HaveOneLabelledPage : Type 0
HaveOneLabelledPage =
    (w : FirstWord) (held : Texts) (rules demand proof labels : List ℕ) (s t : ℕ) (a b : List ℕ)
    → AnswersLabelled w (Some held) rules demand proof labels s a
    → AnswersLabelled w (Some held) rules demand proof labels t b
    → (s ≡ t) × AreSameButTrees a b

-- the same of two answers to the same five texts
abbrev pub HaveOnePageBeside : Type 0
HaveOnePageBeside =
    (held : Texts) (rules demand proof labels old : List ℕ) (s t : ℕ) (a b : List ℕ)
    → AnswersBeside (Some held) rules demand proof labels old s a
    → AnswersBeside (Some held) rules demand proof labels old t b
    → (s ≡ t) × AreSameButTrees a b

-- two answers to the same day and the same four texts are equal
abbrev pub HaveOneCalendar : Type 0
HaveOneCalendar =
    (day : CalendarDay) (held : Texts) (rules demand proof labels : List ℕ) (s t : ℕ) (a b : List ℕ)
    → AnswersDated day (Some held) rules demand proof labels s a
    → AnswersDated day (Some held) rules demand proof labels t b
    → (s ≡ t) × AreSameButTrees a b
