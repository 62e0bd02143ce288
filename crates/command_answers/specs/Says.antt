-- What texts under names say, or why they are refused.
use Rattle.std.specs.Prelude.{ℕ, ◌≡◌, List, Option, Ok}
use Rattle.model_rosters.specs.declared.grammar.Grammar.{Grammar}
use Rattle.model_rosters.specs.declared.instance.Instance.{Instance}
use Rattle.check_certificates.specs.declared.cert.Cert.{Cert}
use Rattle.text_proof_pieces.specs.CertOf.{proof_of}
use Rattle.command_shelf.specs.Shelf.{Texts}
use Rattle.command_answers.specs.Asked.{CertAnswers}
use Rattle.command_answers.specs.Readings.{IsInstanceOf, SaysDemandFault, SaysProofFault, IsGrammarOf, SaysFault}
use Rattle.command_answers.specs.Reader.{Holds}

-- the rules text under a name says this grammar
pub record SaysGrammar (held : Option Texts) (rules : List ℕ) (g : Grammar) : Type 0 where
  pub text : List ℕ
  pub holds : Holds held rules text
  pub says : IsGrammarOf text g

-- the rules and demand texts under two names say this day
pub record SaysDay (held : Option Texts) (rules demand : List ℕ) (i : Instance) : Type 0 where
  pub grammar : Grammar
  pub rules_say : SaysGrammar held rules grammar
  pub text : List ℕ
  pub holds : Holds held demand text
  pub says : IsInstanceOf grammar text i

-- the proof text under a name says this certificate
pub record SaysCert (held : Option Texts) (i : Instance) (proof : List ℕ) (c : Cert) : Type 0 where
  pub text : List ℕ
  pub holds : Holds held proof text
  pub says : proof_of i text ≡ Ok c

-- status 3: the rules text is refused
pub record RefusesRules (held : Option Texts) (rules output : List ℕ) : Type 0 where
  pub text : List ℕ
  pub holds : Holds held rules text
  pub fault : SaysFault text output

-- status 4: the demand text is refused
pub record RefusesDemand (held : Option Texts) (rules demand output : List ℕ) : Type 0 where
  pub grammar : Grammar
  pub rules_say : SaysGrammar held rules grammar
  pub text : List ℕ
  pub holds : Holds held demand text
  pub fault : SaysDemandFault grammar text output

-- status 5: the proof text is refused
pub record RefusesProof (held : Option Texts) (i : Instance) (proof output : List ℕ) : Type 0 where
  pub text : List ℕ
  pub holds : Holds held proof text
  pub fault : SaysProofFault i text output

-- the answers of a command that asks something of a certificate, where `A` tells those for one
pub data CertCommand (A : CertAnswers) (held : Option Texts) (rules demand proof : List ℕ) :
    ℕ → List ℕ → Type 0 where
  answered : (i : Instance) (c : Cert) (status : ℕ) (output : List ℕ) → SaysDay held rules demand i
      → SaysCert held i proof c → A i c status output → CertCommand A held rules demand proof status output
  rules_refused : (output : List ℕ) → RefusesRules held rules output
      → CertCommand A held rules demand proof 3 output
  demand_refused : (output : List ℕ) → RefusesDemand held rules demand output
      → CertCommand A held rules demand proof 4 output
  proof_refused : (i : Instance) (output : List ℕ) → SaysDay held rules demand i
      → RefusesProof held i proof output → CertCommand A held rules demand proof 5 output
