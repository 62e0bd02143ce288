-- What the report of a certificate says.
use Rattle.std.specs.Prelude.{ℕ, ◌≡◌, ◌≤◌, Option, None, Some, List, [], map, length}
use Rattle.model_rosters.specs.declared.grammar.Grammar.{Grammar}
use Rattle.model_rosters.specs.declared.instance.Cell.{Cell}
use Rattle.model_rosters.specs.declared.instance.Done.{Done}
use Rattle.model_rosters.specs.declared.instance.Instance.{Instance}
use Rattle.model_rosters.specs.declared.instance.Shift.{Shift}
use Rattle.model_rosters.specs.Coverage.{covered, understaffing, overstaffing, penalty}
use Rattle.model_rosters.specs.Duties.{Duty}
use Rattle.model_rosters.specs.Folds.{Each, sum_n}
use Rattle.check_certificates.specs.declared.cert.Cert.{Cert}
use Rattle.check_certificates.specs.RosterCauses.{duties, stated_prices}
use Rattle.check_certificates.specs.Sound.{IsSoundShift}
use Rattle.text_reports.specs.declared.cover.Cover.{Cover}
use Rattle.text_reports.specs.declared.report.Report.{Report}

-- how the employees cover a cell
abbrev pub cell_cover : Grammar → List Duty → Cell → Cover
cell_cover g ds c = record {
  need = c.need;
  have = covered g c ds;
  short = understaffing c (covered g c ds);
  over = overstaffing c (covered g c ds);
}

-- the report has these shifts, what they cost, and how they cover each cell
pub record IsOfRoster (i : Instance) (shifts : List Shift) (r : Report) : Type 0 where
  pub shifts_are : r.shifts ≡ shifts
  pub paid_is : r.paid ≡ sum_n (λ p. p) (stated_prices shifts)
  pub penalty_is : r.penalty ≡ sum_n (λ (c : Cell). penalty c (covered i.grammar c (duties shifts))) i.cells
  pub cover_is : r.cover ≡ map (cell_cover i.grammar (duties shifts)) i.cells

-- the report has no roster
pub record IsOfNoRoster (r : Report) : Type 0 where
  pub no_shift : r.shifts ≡ []
  pub none_paid : r.paid ≡ 0
  pub no_penalty : r.penalty ≡ 0
  pub no_cover : r.cover ≡ []

-- the report has the roster, where there is one
abbrev pub HasRoster : Instance → List Shift → Option ℕ → Report → Type 0
HasRoster i shifts None r = IsOfNoRoster r
HasRoster i shifts (Some cost) r = IsOfRoster i shifts r

-- the report of a certificate, with this end of the search and these counts of nodes
pub record IsReport (i : Instance) (c : Cert) (done : Done) (processed failed : ℕ) (r : Report) : Type 0 where
  pub end : r.done ≡ done
  pub cost : r.cost ≡ c.cost
  pub bound : r.bound ≡ c.bound
  pub processed_are : r.processed ≡ processed
  pub failed_are : r.failed ≡ failed
  pub roster : HasRoster i c.shifts c.cost r

-- at most 64 sound shifts
pub record HasSoundShifts (i : Instance) (shifts : List Shift) : Type 0 where
  pub few : length shifts ≤ 64
  pub each : Each (IsSoundShift i) shifts
