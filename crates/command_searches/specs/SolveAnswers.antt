-- What `solve RULES DEMAND PROOF LIMIT` answers, and `solve RULES DEMAND PROOF LIMIT FROM`, by its statuses.
use Rattle.std.specs.Prelude.{ℕ, ◌≡◌, List, Option, None, Some, Ok}
use Rattle.model_rosters.specs.declared.instance.Instance.{Instance}
use Rattle.search_branch_price.specs.declared.found.Found.{Found}
use Rattle.search_branch_price.specs.Found.{IsFound, IsDone, AreCounted}
use Rattle.check_certificates.specs.declared.cert.Cert.{Cert}
use Rattle.check_certificates.specs.certificate_laws.Right.{YesIsRight}
use Rattle.search_days.specs.Solutions.{HasArcCount, IsReportText}
use Rattle.text_proof_pieces.specs.CertOf.{proof_of}
use Rattle.command_shelf.specs.Shelf.{Texts}
use Rattle.command_answers.specs.Says.{SaysDay, RefusesRules, RefusesDemand}
use Rattle.command_searches.specs.From.{RefusesFrom, SaysFrom}
use Rattle.command_searches.specs.declared.limit.Limit.{Limit}
use Rattle.command_searches.specs.Limits.{ForLimit}
use Rattle.command_searches.specs.Solve.{MasterView, SaysTooManyArcs, done_status, IsNoDearerThanOld}

-- how well a day was searched: the certificate is accepted, its bound is what its tree shows, its nodes are right,
-- and all turns were used unless the bound is the cost or no roster is allowed
pub record IsSearched (i : Instance) (m : MasterView) (limit : Limit) (f : Found) : Type 0 where
  pub searched : ForLimit limit (λ k. IsFound i m.strict k f)
  pub counted : AreCounted i m.before m.now f

-- Statuses 0, 1 and 8. The stored text alone denotes a certificate, and what that states is true: its shifts are an
-- allowed roster of exactly its cost, and no allowed roster costs less than its bound. The report is that of this
-- roster, and the status says how the search ended: 0 where the bound is the cost, 1 where no roster is allowed.
-- Where the roster of an old certificate is allowed, this one costs no more.
pub record IsSolved (i : Instance) (old : Option Cert) (m : MasterView) (limit : Limit) (status : ℕ)
    (output stored : List ℕ) : Type 0 where
  pub found : Found
  pub denotes : proof_of i stored ≡ Ok found.cert
  pub right : YesIsRight i found.cert
  pub report : IsReportText i found output
  pub status_is : status ≡ done_status found.done
  pub ended : IsDone found.cert found.done
  pub falls : IsNoDearerThanOld i old found.cert.cost
  pub arcs : ℕ
  pub few : HasArcCount i.grammar arcs
  pub quality : IsSearched i m limit found

-- the certificate that the old text under a name says, where a name is said
abbrev pub SaysOld : Option Texts → Instance → Option (List ℕ) → Option Cert → Type 0
SaysOld held i None None = Unit {0}
SaysOld held i None (Some c) = ⊥
SaysOld held i (Some name) None = ⊥
SaysOld held i (Some name) (Some c) = SaysFrom held i name c

pub data SolveAnswers (held : Option Texts) (rules demand : List ℕ) (from : Option (List ℕ)) (m : MasterView)
    (limit : Limit) : ℕ → List ℕ → Option (List ℕ) → Type 0 where
  solved : (i : Instance) (old : Option Cert) (status : ℕ) (output stored : List ℕ) → SaysDay held rules demand i
      → SaysOld held i from old → IsSolved i old m limit status output stored
      → SolveAnswers held rules demand from m limit status output (Some stored)
  rules_refused : (output : List ℕ) → RefusesRules held rules output
      → SolveAnswers held rules demand from m limit 3 output None
  demand_refused : (output : List ℕ) → RefusesDemand held rules demand output
      → SolveAnswers held rules demand from m limit 4 output None
  proof_refused : (i : Instance) (name output : List ℕ) → SaysDay held rules demand i → from ≡ Some name
      → RefusesFrom held i name output → SolveAnswers held rules demand from m limit 5 output None
  too_many_arcs : (i : Instance) (old : Option Cert) (output : List ℕ) → SaysDay held rules demand i
      → SaysOld held i from old → SaysTooManyArcs i.grammar output
      → SolveAnswers held rules demand from m limit 9 output None
