-- What the program answers to three texts, to a labels text and to an old text: a page or a table where the
-- certificate is accepted or the roster of the report allowed, and where not the line of `check RULES DEMAND
-- PROOF` or the lines of `value RULES DEMAND ROSTER`.
use Rattle.std.specs.Prelude.{ℕ, ◌≡◌, List, Option, None, Some, Ok, Err}
use Rattle.model_rosters.specs.declared.grammar.Grammar.{Grammar}
use Rattle.model_rosters.specs.declared.instance.Instance.{Instance}
use Rattle.model_rosters.specs.declared.instance.Shift.{Shift}
use Rattle.page_labels.specs.FaultLine.{fault_line}
use Rattle.page_labels.specs.Labels.{nothing}
use Rattle.page_labels.specs.LabelsOf.{labels_of}
use Rattle.page_labels.specs.declared.fault.LabelFault.{LabelFault}
use Rattle.page_labels.specs.declared.labels.Labels.{Labels}
use Rattle.command_shelf.specs.Shelf.{Texts}
use Rattle.command_answers.specs.Asked.{DemandAnswers}
use Rattle.command_answers.specs.Reader.{Holds}
use Rattle.command_answers.specs.Readings.{IsGrammarOf, SaysFault}
use Rattle.page_views.specs.Kinds.{kind_for}
use Rattle.page_command.specs.Old.{RefusedOld, old_of}
use Rattle.page_command.specs.Report.{LineAnswers, RosterAnswers}
use Rattle.page_views.specs.Sums.{sums_of}
use Rattle.page_views.specs.declared.kind.FirstWord.{FirstWord}
use Rattle.page_views.specs.declared.kind.FirstWord.TheVariants.{Page}
use Rattle.page_views.specs.declared.kind.Kind.{Kind}

-- status 5: the labels text is refused
pub record SaysLabelFault (i : Instance) (text output : List ℕ) : Type 0 where
  pub fault : LabelFault
  pub reading : labels_of i text ≡ Err fault
  pub line : output ≡ fault_line fault

-- the answers to a proof text or a report where the labels text is refused
pub record RefusedLabels (labels : List ℕ) (i : Instance) (text : List ℕ) (status : ℕ) (output : List ℕ)
    : Type 0 where
  pub line : List ℕ
  pub fault : SaysLabelFault i labels line
  pub answers : LineAnswers i text line status output

-- the answers to a proof text or a report under labels and beside an old text
pub data OldAnswers (k : Kind) (d : Labels) (old : List ℕ) (i : Instance) (text : List ℕ) : ℕ → List ℕ
    → Type 0 where
  read : (shifts : List Shift) (status : ℕ) (output : List ℕ) → old_of i old ≡ Ok shifts
      → RosterAnswers k d (Some shifts) i text status output → OldAnswers k d old i text status output
  old_refused : (status : ℕ) (output : List ℕ) → RefusedOld old i text status output
      → OldAnswers k d old i text status output

-- the same, where there may be no old text
abbrev pub BesideAnswers : Kind → Labels → Option (List ℕ) → Instance → List ℕ → ℕ → List ℕ → Type 0
BesideAnswers k d None i text status output = RosterAnswers k d None i text status output
BesideAnswers k d (Some old) i text status output = OldAnswers k d old i text status output

-- the answers to a proof text or a report under a labels text, and beside an old text where there is one: a
-- fault of the proof text or the report comes first, then one of the labels text, then one of the old text
pub data LabelAnswers (k : Kind) (labels : List ℕ) (old : Option (List ℕ)) (i : Instance) (text : List ℕ) :
    ℕ → List ℕ → Type 0 where
  answered : (d : Labels) (status : ℕ) (output : List ℕ) → labels_of i labels ≡ Ok d
      → BesideAnswers k d old i text status output → LabelAnswers k labels old i text status output
  labels_refused : (status : ℕ) (output : List ℕ) → RefusedLabels labels i text status output
      → LabelAnswers k labels old i text status output

-- the same, where there may be no labels text
abbrev pub UnderAnswers : Kind → Option (List ℕ) → Option (List ℕ) → Instance → List ℕ → ℕ → List ℕ → Type 0
UnderAnswers k None old i text status output = BesideAnswers k nothing old i text status output
UnderAnswers k (Some labels) old i text status output = LabelAnswers k labels old i text status output

-- what is asked, and the texts that are read before the demand text
pub record Request : Type 0 where
  pub word : FirstWord
  pub rules : List ℕ
  pub labels : Option (List ℕ)
  pub old : Option (List ℕ)

-- as what the roster of a proof text or a report is shown: a page has the sums of all its texts
abbrev pub kind_by : Request → List ℕ → List ℕ → Kind
kind_by r demand text = kind_for r.word (sums_of r.rules demand text r.labels r.old)

-- the answers to what is asked by a demand text, and to a proof text or a report
abbrev pub RequestAnswers : Request → List ℕ → Instance → List ℕ → ℕ → List ℕ → Type 0
RequestAnswers r demand i text status output =
    UnderAnswers (kind_by r demand text) r.labels r.old i text status output

-- the answers to what is asked by a grammar, and then to the demand and proof texts under names
pub record AnswersDemand (r : Request) (held : Option Texts) (g : Grammar) (demand_name proof_name : List ℕ)
    (status : ℕ) (output : List ℕ) : Type 0 where
  pub text : List ℕ
  pub holds : Holds held demand_name text
  pub answers : DemandAnswers (RequestAnswers r text) held g text proof_name status output

-- the answers to what is asked, and then to the demand and proof texts under names
pub data AnswersRequest (r : Request) (held : Option Texts) (demand_name proof_name : List ℕ) : ℕ → List ℕ
    → Type 0 where
  accepted : (g : Grammar) (status : ℕ) (output : List ℕ) → IsGrammarOf r.rules g
      → AnswersDemand r held g demand_name proof_name status output
      → AnswersRequest r held demand_name proof_name status output
  refused : (output : List ℕ) → SaysFault r.rules output
      → AnswersRequest r held demand_name proof_name 3 output

-- a first word, a rules text, and a labels text and an old text where there is one
abbrev pub requested : FirstWord → List ℕ → Option (List ℕ) → Option (List ℕ) → Request
requested w rules labels old = record { word = w; rules = rules; labels = labels; old = old }

-- the answers to the three texts under names
pub record AnswersShown (w : FirstWord) (held : Option Texts) (name demand_name proof_name : List ℕ)
    (status : ℕ)
    (output : List ℕ) : Type 0 where
  pub text : List ℕ
  pub holds : Holds held name text
  pub answers : AnswersRequest (requested w text None None) held demand_name proof_name status output

-- the answers to a rules text, a labels text under a name, and the demand and proof texts under names
pub record AnswersLabelsText (w : FirstWord) (held : Option Texts)
    (rules demand_name proof_name labels_name : List ℕ) (status : ℕ) (output : List ℕ) : Type 0 where
  pub text : List ℕ
  pub holds : Holds held labels_name text
  pub answers : AnswersRequest (requested w rules (Some text) None) held demand_name proof_name status output

-- the answers to four texts under names
pub record AnswersLabelled (w : FirstWord) (held : Option Texts)
    (name demand_name proof_name labels_name : List ℕ) (status : ℕ) (output : List ℕ) : Type 0 where
  pub text : List ℕ
  pub holds : Holds held name text
  pub answers : AnswersLabelsText w held text demand_name proof_name labels_name status output

-- the answers to a rules text and a labels text, and then to an old text and the demand and proof texts under
-- names
pub record AnswersOldText (held : Option Texts) (rules labels demand_name proof_name old_name : List ℕ)
    (status : ℕ)
    (output : List ℕ) : Type 0 where
  pub text : List ℕ
  pub holds : Holds held old_name text
  pub answers : AnswersRequest (requested Page rules (Some labels) (Some text)) held demand_name proof_name
      status output

-- the same, where the labels text stands under a name
pub record AnswersBesideRules (held : Option Texts)
    (rules demand_name proof_name labels_name old_name : List ℕ)
    (status : ℕ) (output : List ℕ) : Type 0 where
  pub text : List ℕ
  pub holds : Holds held labels_name text
  pub answers : AnswersOldText held rules text demand_name proof_name old_name status output

-- the answers to five texts under names
pub record AnswersBeside (held : Option Texts) (name demand_name proof_name labels_name old_name : List ℕ)
    (status : ℕ) (output : List ℕ) : Type 0 where
  pub text : List ℕ
  pub holds : Holds held name text
  pub answers : AnswersBesideRules held text demand_name proof_name labels_name old_name status output
