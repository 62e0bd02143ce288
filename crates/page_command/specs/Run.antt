-- What the program does.
use Rattle.std.specs.Prelude.{ℕ, ◌≡◌, Option, None, Some, List, [], ◌∷◌, ◌++◌, codes, Result, Ok, Err, if◌then◌else◌}
use Rattle.std.specs.Str.{bytes_eq}
use Rattle.command_shelf.specs.Shelf.{Told}
use Rattle.text_lines.specs.Fields.{number_at}
use Rattle.page_csv.specs.roster_calendar.Dates.{date_of}
use Rattle.page_csv.specs.declared.roster_calendar.date.Date.{Date}
use Rattle.page_views.specs.declared.kind.CalendarDay.{CalendarDay}
use Rattle.page_command.specs.Check.{AnswersBeside, AnswersLabelled, AnswersShown}
use Rattle.page_command.specs.Dated.{AnswersDated}
use Rattle.command_answers.specs.Reader.{IsReader}
use Rattle.page_views.specs.declared.kind.FirstWord.{FirstWord}
use Rattle.page_views.specs.Kinds.{first_word}

-- what is said of other words
abbrev pub no_form_line : List ℕ
no_form_line =
    codes "words: page RULES DEMAND PROOF [LABELS [OLD]] | table RULES DEMAND PROOF [LABELS]"
    ++ codes " | coverage RULES DEMAND PROOF [LABELS] | calendar RULES DEMAND PROOF LABELS DATE [SHIFT]\n"

-- the one answer to other words
pub record AnswersNoForm (status : ℕ) (output : List ℕ) : Type 0 where
  pub two : status ≡ 2
  pub line : output ≡ no_form_line

-- what words ask for
pub data Form : Type 0 where
  shown : FirstWord → List ℕ → List ℕ → List ℕ → Form
  labelled : FirstWord → List ℕ → List ℕ → List ℕ → List ℕ → Form
  beside : List ℕ → List ℕ → List ℕ → List ℕ → List ℕ → Form
  dated : CalendarDay → List ℕ → List ℕ → List ℕ → List ℕ → Form
  none : Form

-- what the first word asks for and the names of a rules text, a demand text and a proof text
abbrev pub shown_form : Option FirstWord → List ℕ → List ℕ → List ℕ → Form
shown_form None rules demand proof = none
shown_form (Some x) rules demand proof = shown x rules demand proof

-- the same, and the name of a labels text
abbrev pub labelled_form : Option FirstWord → List ℕ → List ℕ → List ℕ → List ℕ → Form
labelled_form None rules demand proof labels = none
labelled_form (Some x) rules demand proof labels = labelled x rules demand proof labels

-- a day, where there is one, perhaps the number of a shift, and the names of a rules text, a demand text, a
-- proof text and a labels text
abbrev pub form_on : Option Date → Option ℕ → List ℕ → List ℕ → List ℕ → List ℕ → Form
form_on None shift rules demand proof labels = none
form_on (Some date) shift rules demand proof labels =
    dated (record { date = date; shift = shift }) rules demand proof labels

-- the word for a page, four names and that of an old text, or the word for a calendar, four names and a day
unfoldable pub last_form : List ℕ → List ℕ → List ℕ → List ℕ → List ℕ → List ℕ → Form
last_form w rules demand proof labels last =
    if bytes_eq w (codes "page") then beside rules demand proof labels last
    else (if bytes_eq w (codes "calendar") then form_on (date_of last) None rules demand proof labels
    else none)

abbrev pub number_or_none : Result ℕ (Unit {0}) → Option ℕ
number_or_none (Ok n) = Some n
number_or_none (Err e) = None

-- the number of a shift that a word says, 1 to 64
abbrev pub shift_of : List ℕ → Option ℕ
shift_of w = number_or_none (number_at tt tt 1 64 w)

-- the same as for a day, where there is a number
abbrev pub form_for : Option ℕ → Option Date → List ℕ → List ℕ → List ℕ → List ℕ → Form
form_for None date rules demand proof labels = none
form_for (Some shift) date rules demand proof labels = form_on date (Some shift) rules demand proof labels

-- the word for a calendar, four names, a day and the number of a shift
unfoldable pub shift_form : List ℕ → List ℕ → List ℕ → List ℕ → List ℕ → List ℕ → List ℕ → Form
shift_form w rules demand proof labels day number =
    if bytes_eq w (codes "calendar") then form_for (shift_of number) (date_of day) rules demand proof labels
    else none

-- what words ask for, by their number
abbrev pub form_of : List (List ℕ) → Form
form_of (w ∷ rules ∷ demand ∷ proof ∷ []) = shown_form (first_word w) rules demand proof
form_of (w ∷ rules ∷ demand ∷ proof ∷ labels ∷ []) = labelled_form (first_word w) rules demand proof labels
form_of (w ∷ rules ∷ demand ∷ proof ∷ labels ∷ last ∷ []) = last_form w rules demand proof labels last
form_of (w ∷ rules ∷ demand ∷ proof ∷ labels ∷ day ∷ number ∷ []) =
    shift_form w rules demand proof labels day number
form_of _ = none

-- what is done for a form: with labels their text is fetched behind the rules text, and then an old text
abbrev pub DoesForm : Form → Told → Told → ℕ → Type 0
DoesForm (shown w rules demand proof) before after status =
    IsReader (AnswersShown w before.held rules demand proof) (rules ∷ demand ∷ proof ∷ []) before after status
DoesForm (labelled w rules demand proof labels) before after status =
    IsReader (AnswersLabelled w before.held rules demand proof labels) (rules ∷ labels ∷ demand ∷ proof ∷ [])
    before after status
DoesForm (beside rules demand proof labels old) before after status =
    IsReader (AnswersBeside before.held rules demand proof labels old)
    (rules ∷ labels ∷ old ∷ demand ∷ proof ∷ [])
    before after status
DoesForm (dated day rules demand proof labels) before after status =
    IsReader (AnswersDated day before.held rules demand proof labels) (rules ∷ labels ∷ demand ∷ proof ∷ [])
    before after status
DoesForm none before after status = IsReader AnswersNoForm [] before after status

abbrev pub Does : List (List ℕ) → Told → Told → ℕ → Type 0
Does words before after status = DoesForm (form_of words) before after status
