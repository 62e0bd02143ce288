-- Which names stand at the shifts of a roster.
use Rattle.std.specs.Prelude.{ℕ, ◌≡◌, ◌-◌, Bool, ◌&&◌, List, [], ◌∷◌, nat_eq, slice_get, Option, Some, None, All, if◌then◌else◌}
use Rattle.std.specs.Str.{bytes_eq}
use Rattle.model_rosters.specs.declared.instance.Shift.{Shift}
use Rattle.page_labels.specs.declared.fault.LabelFault.{LabelFault}
use Rattle.page_labels.specs.declared.fault.LabelFault.TheVariants.{AnotherShift, NoShift}
use Rattle.page_labels.specs.declared.labels.ShiftLabel.{ShiftLabel}

-- the shift has the name's group and word
abbrev pub is_its_shift : ShiftLabel → Shift → Bool
is_its_shift x s = nat_eq x.group s.group && bytes_eq x.word s.word

-- why a name cannot stand at what has its number
unfoldable pub refused_of : ShiftLabel → Option Shift → Option LabelFault
refused_of x None = Some (NoShift x.line)
refused_of x (Some s) = if is_its_shift x s then None else Some (AnotherShift x.line)

-- the shift with a number, from 1
unfoldable pub numbered_shift : List Shift → ℕ → Option Shift
numbered_shift shifts number = if nat_eq number 0 then None else slice_get shifts (number - 1)

-- why a name cannot stand at these shifts
unfoldable pub refused_at : ShiftLabel → List Shift → Option LabelFault
refused_at x shifts = refused_of x (numbered_shift shifts x.number)

-- this fault, or else that of the rest
abbrev pub or_else : Option LabelFault → Option LabelFault → Option LabelFault
or_else (Some e) rest = Some e
or_else None rest = rest

-- the fault of the first name that cannot stand at these shifts
abbrev pub refused_shift : List ShiftLabel → List Shift → Option LabelFault
refused_shift [] shifts = None
refused_shift (x ∷ xs) shifts = or_else (refused_at x shifts) (refused_shift xs shifts)

-- the shift that has a name's number has its group and its word
pub record StandsAt (shifts : List Shift) (x : ShiftLabel) : Type 0 where
  pub shift : Shift
  pub there : numbered_shift shifts x.number ≡ Some shift
  pub group : x.group ≡ shift.group
  pub word : x.word ≡ shift.word

-- each name stands at its own shift
abbrev pub StandAll : List Shift → List ShiftLabel → Type 0
StandAll shifts labels = All (StandsAt shifts) labels
