-- What commands answer that ask something of a third text by a day.
use Rattle.std.specs.Prelude.{ℕ, ◌≡◌, List, Option, Ok}
use Rattle.model_rosters.specs.declared.grammar.Grammar.{Grammar}
use Rattle.model_rosters.specs.declared.instance.Instance.{Instance}
use Rattle.check_certificates.specs.declared.cert.Cert.{Cert}
use Rattle.text_proof_pieces.specs.CertOf.{proof_of}
use Rattle.command_shelf.specs.Shelf.{Texts}
use Rattle.command_answers.specs.Readings.{IsGrammarOf, SaysFault, IsInstanceOf, SaysDemandFault, SaysProofFault}
use Rattle.command_answers.specs.Reader.{Holds}

-- the answers for each certificate of an instance
abbrev pub CertAnswers : Type 1
CertAnswers = Instance → Cert → ℕ → List ℕ → Type 0

-- the answers to a proof text, where `A` tells those for its certificate
pub data ProofAnswers (A : CertAnswers) (i : Instance) (text : List ℕ) : ℕ → List ℕ → Type 0 where
  accepted : (c : Cert) (status : ℕ) (output : List ℕ) → proof_of i text ≡ Ok c → A i c status output
      → ProofAnswers A i text status output
  refused : (output : List ℕ) → SaysProofFault i text output → ProofAnswers A i text 5 output

-- the answers to each third text, a proof text or another, by an instance
abbrev pub TextAnswers : Type 1
TextAnswers = Instance → List ℕ → ℕ → List ℕ → Type 0

-- the same, where the third text stands under a name
pub record AnswersThird (A : TextAnswers) (held : Option Texts) (i : Instance) (name : List ℕ) (status : ℕ)
    (output : List ℕ) : Type 0 where
  pub text : List ℕ
  pub holds : Holds held name text
  pub answers : A i text status output

-- the answers to a demand text, and then to the third text under a name
pub data DemandAnswers (A : TextAnswers) (held : Option Texts) (g : Grammar) (text name : List ℕ) :
    ℕ → List ℕ → Type 0 where
  accepted : (i : Instance) (status : ℕ) (output : List ℕ) → IsInstanceOf g text i
      → AnswersThird A held i name status output
      → DemandAnswers A held g text name status output
  refused : (output : List ℕ) → SaysDemandFault g text output → DemandAnswers A held g text name 4 output

-- the answers to a rules text and a demand text, and then to the third text under a name
pub data TextsAnswers (A : TextAnswers) (held : Option Texts) (rules demand name : List ℕ) :
    ℕ → List ℕ → Type 0 where
  accepted : (g : Grammar) (status : ℕ) (output : List ℕ) → IsGrammarOf rules g
      → DemandAnswers A held g demand name status output
      → TextsAnswers A held rules demand name status output
  refused : (output : List ℕ) → SaysFault rules output → TextsAnswers A held rules demand name 3 output

-- the answers to a demand text under a name, and then to the third text under another
pub record AnswersDemand (A : TextAnswers) (held : Option Texts) (g : Grammar) (name third_name : List ℕ)
    (status : ℕ) (output : List ℕ) : Type 0 where
  pub text : List ℕ
  pub holds : Holds held name text
  pub answers : DemandAnswers A held g text third_name status output

-- the answers to a rules text, and then to the demand text and the third text under names
pub data RulesAnswers (A : TextAnswers) (held : Option Texts) (text demand_name third_name : List ℕ) :
    ℕ → List ℕ → Type 0 where
  accepted : (g : Grammar) (status : ℕ) (output : List ℕ) → IsGrammarOf text g
      → AnswersDemand A held g demand_name third_name status output
      → RulesAnswers A held text demand_name third_name status output
  refused : (output : List ℕ) → SaysFault text output
      → RulesAnswers A held text demand_name third_name 3 output

-- the same, where the rules text stands under a name
pub record AnswersTexts (A : TextAnswers) (held : Option Texts) (name demand_name third_name : List ℕ)
    (status : ℕ) (output : List ℕ) : Type 0 where
  pub text : List ℕ
  pub holds : Holds held name text
  pub answers : RulesAnswers A held text demand_name third_name status output
