-- What `solve RULES DEMAND PROOF LIMIT` answers, and `solve RULES DEMAND PROOF LIMIT FROM`.
use Rattle.std.specs.Prelude.{ℕ, ◌≡◌, ◌<◌, ◌++◌, Bool, List, [], ◌∷◌, Option, None, Some, Ok, codes, length}
use Rattle.std.specs.Fmt.{decimal}
use Rattle.command_searches.specs.declared.limit.Limit.{Limit}
use Rattle.command_searches.specs.From.{SaysFromFault}
use Rattle.command_searches.specs.Limits.{ForLimit}
use Rattle.model_rosters.specs.declared.grammar.ArcKey.{ArcKey}
use Rattle.model_rosters.specs.declared.grammar.Grammar.{Grammar}
use Rattle.model_rosters.specs.declared.instance.Done.{Done}
use Rattle.model_rosters.specs.declared.instance.Done.TheVariants.{Equal, NoRoster, TurnsOut}
use Rattle.model_rosters.specs.declared.instance.Instance.{Instance}
use Rattle.model_rosters.specs.declared.instance.Shift.{Shift}
use Rattle.model_rosters.specs.arc_laws.Lists.{AreArcs}
use Rattle.check_certificates.specs.declared.cert.Cert.{Cert}
use Rattle.check_certificates.specs.certificate_laws.Right.{YesIsRight}
use Rattle.search_primal.specs.OldRosters.{IsNoDearerThan}
use Rattle.search_branch_price.specs.declared.found.Found.{Found}
use Rattle.search_branch_price.specs.Found.{IsFound, AreCounted}
use Rattle.search_days.specs.Solutions.{HasArcCount, IsReportText}
use Rattle.text_proof_pieces.specs.CertOf.{proof_of}
use Rattle.text_old_shifts.specs.FromOf.{from_of}
use Rattle.command_shelf.specs.Shelf.{Texts}
use Rattle.command_answers.specs.Readings.{IsInstanceOf, SaysDemandFault, IsGrammarOf, SaysFault}
use Rattle.command_answers.specs.Reader.{Holds}

-- a master: whether it refuses hard nodes alone, and how many nodes it had refused before and has refused now
pub record MasterView : Type 0 where
  pub strict : Bool
  pub before : ℕ
  pub now : ℕ

abbrev pub lent : Bool → ℕ → ℕ → MasterView
lent strict before now = record { strict = strict; before = before; now = now }

-- 0 where the bound is the cost, 1 where no roster is allowed, and 8 where the turns ran out
abbrev pub done_status : Done → ℕ
done_status Equal = 0
done_status NoRoster = 1
done_status TurnsOut = 8

-- What a search found and stored. The stored text denotes a certificate that is accepted, so what it
-- states is true: its shifts are an allowed roster of exactly its cost, and no allowed roster costs less
-- than its bound.
pub record Finds (i : Instance) (m : MasterView) (limit : Limit) (status : ℕ) (stored : List ℕ)
    (f : Found) : Type 0 where
  -- the certificate is accepted, its bound is what its tree shows, its nodes are right, and the status says
  -- how the search ended: the bound is the cost, or no roster is allowed, unless all turns were used; of a search
  -- that is limited by seconds all this holds for some number of turns
  pub searched : ForLimit limit (λ k. IsFound i m.strict k f)
  pub counted : AreCounted i m.before m.now f
  pub status_is : status ≡ done_status f.done
  -- the stored text alone shows it
  pub denotes : proof_of i stored ≡ Ok f.cert
  pub right : YesIsRight i f.cert

-- the shifts of an old certificate, if there is one
abbrev pub old_shifts : Option Cert → List Shift
old_shifts None = []
old_shifts (Some c) = c.shifts

-- the cost is at most that of the roster of an old certificate, where there is one and the roster is allowed
abbrev pub IsNoDearerThanOld : Instance → Option Cert → Option ℕ → Type 0
IsNoDearerThanOld i None cost = Unit {0}
IsNoDearerThanOld i (Some c) cost = IsNoDearerThan i c.shifts cost

-- status 0, 1 or 8: the certificate is stored, and its report is said
pub record SaysFound (i : Instance) (old : Option Cert) (m : MasterView) (limit : Limit) (status : ℕ)
    (output stored : List ℕ) : Type 0 where
  pub arcs : ℕ
  pub few : HasArcCount i.grammar arcs
  pub found : Found
  pub finds : Finds i m limit status stored found
  pub falls : IsNoDearerThanOld i old found.cert.cost
  pub report : IsReportText i found output

-- the line of an instance with too many arcs
abbrev pub arcs_line : ℕ → List ℕ
arcs_line count = codes "graph: " ++ decimal count ++ codes " arcs, at most 100000\n"

-- status 9: the instance has more than 100,000 arcs
pub record SaysTooManyArcs (g : Grammar) (output : List ℕ) : Type 0 where
  pub listed : List ArcKey
  pub are : AreArcs g listed
  pub many : 100000 < length listed
  pub line : output ≡ arcs_line (length listed)

-- the answers for an instance and an old certificate, if there is one
pub data Solving (i : Instance) (old : Option Cert) (m : MasterView) (limit : Limit) :
    ℕ → List ℕ → Option (List ℕ) → Type 0 where
  found : (status : ℕ) (output stored : List ℕ) → SaysFound i old m limit status output stored
      → Solving i old m limit status output (Some stored)
  too_many : (output : List ℕ) → SaysTooManyArcs i.grammar output → Solving i old m limit 9 output None

-- the answers for an instance and an old text: a certificate of the day, or the shifts of another one
pub data SolvesProof (i : Instance) (text : List ℕ) (m : MasterView) (limit : Limit) :
    ℕ → List ℕ → Option (List ℕ) → Type 0 where
  accepted : (c : Cert) (status : ℕ) (output : List ℕ) (stored : Option (List ℕ)) → from_of i text ≡ Ok c
      → Solving i (Some c) m limit status output stored → SolvesProof i text m limit status output stored
  refused : (output : List ℕ) → SaysFromFault i text output → SolvesProof i text m limit 5 output None

-- the same, where the old text stands under a name
pub record AnswersSolveProof (held : Option Texts) (i : Instance) (name : List ℕ) (m : MasterView) (limit : Limit)
    (status : ℕ) (output : List ℕ) (stored : Option (List ℕ)) : Type 0 where
  pub text : List ℕ
  pub holds : Holds held name text
  pub answers : SolvesProof i text m limit status output stored

-- the answers for an instance and the name of an old certificate, if one is said
abbrev pub SolvesFrom : Option Texts → Instance → Option (List ℕ) → MasterView → Limit → ℕ → List ℕ
    → Option (List ℕ) → Type 0
SolvesFrom held i None m limit status output stored = Solving i None m limit status output stored
SolvesFrom held i (Some name) m limit status output stored = AnswersSolveProof held i name m limit status output stored

-- the names of texts that are fetched for it
abbrev pub from_names : Option (List ℕ) → List (List ℕ)
from_names None = []
from_names (Some name) = name ∷ []

-- the answers to a demand text
pub data SolvesDemand (held : Option Texts) (g : Grammar) (text : List ℕ) (from : Option (List ℕ)) (m : MasterView)
    (limit : Limit) : ℕ → List ℕ → Option (List ℕ) → Type 0 where
  accepted : (i : Instance) (status : ℕ) (output : List ℕ) (stored : Option (List ℕ)) → IsInstanceOf g text i
      → SolvesFrom held i from m limit status output stored
      → SolvesDemand held g text from m limit status output stored
  refused : (output : List ℕ) → SaysDemandFault g text output
      → SolvesDemand held g text from m limit 4 output None

-- the same, where the demand text stands under a name
pub record AnswersSolveDemand (held : Option Texts) (g : Grammar) (name : List ℕ) (from : Option (List ℕ))
    (m : MasterView) (limit : Limit) (status : ℕ) (output : List ℕ) (stored : Option (List ℕ)) : Type 0 where
  pub text : List ℕ
  pub holds : Holds held name text
  pub answers : SolvesDemand held g text from m limit status output stored

-- the answers to a rules text, and then to the demand text under a name
pub data SolvesRules (held : Option Texts) (text demand_name : List ℕ) (from : Option (List ℕ)) (m : MasterView)
    (limit : Limit) : ℕ → List ℕ → Option (List ℕ) → Type 0 where
  accepted : (g : Grammar) (status : ℕ) (output : List ℕ) (stored : Option (List ℕ)) → IsGrammarOf text g
      → AnswersSolveDemand held g demand_name from m limit status output stored
      → SolvesRules held text demand_name from m limit status output stored
  refused : (output : List ℕ) → SaysFault text output
      → SolvesRules held text demand_name from m limit 3 output None

-- the same, where the rules text stands under a name
pub record AnswersSolve (held : Option Texts) (name demand_name : List ℕ) (from : Option (List ℕ)) (m : MasterView)
    (limit : Limit) (status : ℕ) (output : List ℕ) (stored : Option (List ℕ)) : Type 0 where
  pub text : List ℕ
  pub holds : Holds held name text
  pub answers : SolvesRules held text demand_name from m limit status output stored
