-- What is said of a roster.
use Rattle.std.specs.Prelude.{ℕ, ◌≡◌, Bool, true, false, Option, None, Some, List, codes, length, nat_lt, if◌then◌else◌}
use Rattle.model_rosters.specs.declared.instance.Instance.{Instance}
use Rattle.model_rosters.specs.declared.instance.Shift.{Shift}
use Rattle.check_certificates.specs.declared.cert.Cert.{Cert}
use Rattle.page_labels.specs.FaultLine.{fault_line}
use Rattle.page_labels.specs.Shifts.{refused_shift}
use Rattle.page_labels.specs.declared.fault.LabelFault.{LabelFault}
use Rattle.page_labels.specs.declared.labels.Labels.{Labels}
use Rattle.page_csv.specs.roster_calendar.Calendars.{calendar_of}
use Rattle.page_csv.specs.Coverages.{coverage_of}
use Rattle.page_csv.specs.Rows.{table_of}
use Rattle.check_values.specs.declared.valued.Valued.{Valued}
use Rattle.page_views.specs.Draw.{IsPage, columns_of}
use Rattle.page_views.specs.declared.kind.Kind.{Kind}
use Rattle.page_views.specs.declared.kind.Kind.TheVariants.{Page, Table, Coverage, Calendar}
use Rattle.page_views.specs.declared.roster.ShownRoster.{ShownRoster}

-- the roster of a certificate, and its bound
abbrev pub certified : Cert → ShownRoster
certified c = record { shifts = c.shifts; cost = c.cost; bound = c.bound; is_stated = false }

-- an allowed roster that was stated; nothing is proved of its cost
abbrev pub stated : Valued → ShownRoster
stated v = record { shifts = v.shifts; cost = Some v.cost; bound = Some 0; is_stated = true }

-- the page of a roster under labels, made from texts with these sums, beside an old roster where there is
-- one, or the table of it, of its coverage or the calendar of it
abbrev pub IsShown : Kind → Labels → Instance → ShownRoster → Option (List Shift) → List ℕ → Type 0
IsShown (Page s) d i r old output = IsPage s d i r old output
IsShown Table d i r old output = output ≡ table_of i d r.shifts
IsShown Coverage d i r old output = output ≡ coverage_of i d (columns_of i r r.cost)
IsShown (Calendar x) d i r old output = output ≡ calendar_of i d x.setting x.shift r.shifts

-- why a name of the labels cannot stand at the roster's shifts, where there is a roster
abbrev pub name_fault : Labels → ShownRoster → Option ℕ → Option LabelFault
name_fault d r None = None
name_fault d r (Some cost) = refused_shift d.shifts r.shifts

-- a number is beyond the shifts
abbrev pub is_beyond : Option ℕ → List Shift → Bool
is_beyond None shifts = false
is_beyond (Some number) shifts = nat_lt (length shifts) number

-- a calendar is to have the events of a shift that there is not
abbrev pub lacks_shift : Kind → List Shift → Bool
lacks_shift (Page s) shifts = false
lacks_shift Table shifts = false
lacks_shift Coverage shifts = false
lacks_shift (Calendar x) shifts = is_beyond x.shift shifts

-- what is said of a calendar of such a shift
abbrev pub no_shift_line : List ℕ
no_shift_line = codes "calendar: no such shift\n"

-- the line of a name's fault, or that of a shift that there is not
abbrev pub line_of : Option LabelFault → Kind → List Shift → Option (List ℕ)
line_of (Some e) k shifts = Some (fault_line e)
line_of None k shifts = if lacks_shift k shifts then Some no_shift_line else None

-- the line that is said in place of what shows a roster, where there is one
abbrev pub line_instead : Kind → Labels → ShownRoster → Option (List ℕ)
line_instead k d r = line_of (name_fault d r r.cost) k r.shifts

-- the answers with a roster that can be shown: status 0 and what shows it, or status 5 and a line in its
-- place
pub data Showing (k : Kind) (d : Labels) (i : Instance) (r : ShownRoster) (old : Option (List Shift)) :
    ℕ → List ℕ → Type 0 where
  shown : (output : List ℕ) → line_instead k d r ≡ None → IsShown k d i r old output
      → Showing k d i r old 0 output
  line_said : (output : List ℕ) → line_instead k d r ≡ Some output → Showing k d i r old 5 output
