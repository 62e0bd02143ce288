-- What `make NUMBER PROOF LIMIT` answers.
use Rattle.std.specs.Prelude.{ℕ, ◌≡◌, ◌≢◌, List, Option, None, Some, Ok}
use Rattle.command_searches.specs.declared.limit.Limit.{Limit}
use Rattle.search_branch_price.specs.declared.found.Found.{Found}
use Rattle.search_days.specs.Solutions.{HasArcCount}
use Rattle.model_made_days.specs.Made.{made_instance}
use Rattle.text_reports.specs.declared.summary.Summary.{Summary}
use Rattle.text_reports.specs.SummaryText.{summary_text}
use Rattle.command_searches.specs.Solve.{MasterView, SaysTooManyArcs, done_status}
use Rattle.command_searches.specs.SolveAnswers.{IsSearched}
use Rattle.search_branch_price.specs.Found.{IsDone}
use Rattle.check_certificates.specs.certificate_laws.Right.{YesIsRight}
use Rattle.text_proof_pieces.specs.CertOf.{proof_of}

-- the summary of a search on the day that is made from a number
abbrev pub summary_of : ℕ → ℕ → Found → Summary
summary_of number arcs f = record {
  number = number;
  periods = (made_instance number).grammar.periods;
  arcs = arcs;
  done = f.done;
  cost = f.cert.cost;
  bound = f.cert.bound;
  processed = f.processed;
  failed = f.failed;
}

-- Statuses 0 and 8. The stored text alone denotes a certificate, and what that states is true; the summary is that of
-- the search, and the status says how it ended: 0 where the bound is the cost. Some roster is allowed: that without a
-- shift.
pub record SaysMade (number : ℕ) (m : MasterView) (limit : Limit) (status : ℕ) (output stored : List ℕ) : Type 0 where
  pub found : Found
  pub denotes : proof_of (made_instance number) stored ≡ Ok found.cert
  pub right : YesIsRight (made_instance number) found.cert
  pub arcs : ℕ
  pub few : HasArcCount (made_instance number).grammar arcs
  pub summary : output ≡ summary_text (summary_of number arcs found)
  pub status_is : status ≡ done_status found.done
  pub ended : IsDone found.cert found.done
  pub some : status ≢ 1
  pub quality : IsSearched (made_instance number) m limit found

-- the answers to a number
pub data AnswersMake (number : ℕ) (m : MasterView) (limit : Limit) : ℕ → List ℕ → Option (List ℕ) → Type 0 where
  found : (status : ℕ) (output stored : List ℕ) → SaysMade number m limit status output stored
      → AnswersMake number m limit status output (Some stored)
  too_many : (output : List ℕ) → SaysTooManyArcs (made_instance number).grammar output
      → AnswersMake number m limit 9 output None
