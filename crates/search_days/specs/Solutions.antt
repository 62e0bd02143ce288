-- What comes of a day that is searched: what was found, the text of its certificate, and its report.
use Rattle.std.specs.Prelude.{ℕ, ◌≡◌, ◌≤◌, Bool, Ok, List, length}
use Rattle.model_rosters.specs.declared.grammar.ArcKey.{ArcKey}
use Rattle.model_rosters.specs.declared.grammar.Grammar.{Grammar}
use Rattle.model_rosters.specs.declared.instance.Instance.{Instance}
use Rattle.model_rosters.specs.declared.instance.Shift.{Shift}
use Rattle.model_rosters.specs.arc_laws.Lists.{AreArcs}
use Rattle.check_certificates.specs.certificate_laws.Right.{YesIsRight}
use Rattle.text_proof_pieces.specs.CertOf.{proof_of}
use Rattle.text_certificates.specs.Written.{cert_text}
use Rattle.search_primal.specs.OldRosters.{IsNoDearerThan}
use Rattle.search_branch_price.specs.declared.found.Found.{Found}
use Rattle.search_branch_price.specs.declared.task.SearchTask.{SearchTask}
use Rattle.search_branch_price.specs.Found.{IsFound, AreCounted}
use Rattle.search_watch.specs.Within.{IsWithin}
use Rattle.text_reports.specs.declared.report.Report.{Report}
use Rattle.text_reports.specs.Reports.{IsReport}
use Rattle.text_reports.specs.ReportText.{report_text}
use Rattle.search_days.specs.declared.solution.Solution.{Solution}

-- the number of the arcs of the instance, at most 100,000
abbrev pub HasArcCount : Grammar → ℕ → Type 0
HasArcCount g n = (listed : List ArcKey) × AreArcs g listed × (n ≡ length listed) × (n ≤ 100000)

-- the search's certificate is what the text denotes, and what it states is true
pub record IsSolution (i : Instance) (strict : Bool) (turns : ℕ) (s : Solution) : Type 0 where
  pub found : IsFound i strict turns s.found
  pub text : s.proof ≡ cert_text i s.found.cert
  pub denotes : proof_of i s.proof ≡ Ok s.found.cert
  pub right : YesIsRight i s.found.cert
  pub arcs : HasArcCount i.grammar s.arcs

-- some search of at most 10,000 turns found it
abbrev pub IsSearched : Instance → Found → Type 0
IsSearched i f = (strict : Bool) × (turns : ℕ) × (turns ≤ 10000) × IsFound i strict turns f

-- it is what was found, with its text: a solution of each search that finds it
pub record IsWritten (i : Instance) (f : Found) (s : Solution) : Type 0 where
  pub solution : (strict : Bool) (turns : ℕ) → IsFound i strict turns f → IsSolution i strict turns s
  pub same : s.found ≡ f

-- it is the solution of a search of so many turns, or fewer where the watch is not patient, it costs no more than
-- the old shifts, and its nodes without prices are counted by a master whose count went from `before` to `now`
pub record IsDaySolved (i : Instance) (turns : ℕ) (old : List Shift) (patient strict : Bool) (before now : ℕ)
    (s : Solution) : Type 0 where
  pub solution : IsWithin patient turns (λ k. IsSolution i strict k s)
  pub falls : IsNoDearerThan i old s.found.cert.cost
  pub counted : AreCounted i before now s.found

-- the same of what is asked of a search
abbrev pub IsTaskSolved : SearchTask → Bool → Bool → ℕ → ℕ → Solution → Type 0
IsTaskSolved t = IsDaySolved t.day.instance.now t.turns t.start.shifts.now

-- the report of what was found, written
pub record IsReportText (i : Instance) (f : Found) (text : List ℕ) : Type 0 where
  pub report : Report
  pub is : IsReport i f.cert f.done f.processed f.failed report
  pub written : text ≡ report_text i report
