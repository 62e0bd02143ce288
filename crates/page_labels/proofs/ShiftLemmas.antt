-- Which names stand at the shifts of a roster.
use Rattle.std.proofs.Common.{◌≡◌, Bool, true, false, cond, ◌&&◌, eqb, eqb-true, Option, None, Some, List, [], ◌∷◌, refl}
use Rattle.std.specs.Str.{bytes_eq}
use Rattle.std.proofs.lemmas.Slice.Eq.{bytes_eq-Decides}
use Rattle.std.proofs.lemmas.List.Elements.{All-cons, All-nil}
use Rattle.model_rosters.specs.declared.instance.Shift.{Shift}
use Rattle.page_labels.specs.declared.fault.LabelFault.{LabelFault}
use Rattle.page_labels.specs.declared.fault.LabelFault.TheVariants.{AnotherShift}
use Rattle.page_labels.specs.declared.labels.ShiftLabel.{ShiftLabel}
use Rattle.page_labels.specs.Shifts.{StandAll, StandsAt, numbered_shift, or_else, refused_at, refused_of, refused_shift}

-- a name that is not refused at what has its number
stands_of : (shifts : List Shift) (x : ShiftLabel) (o : Option Shift) → numbered_shift shifts x.number ≡ o → refused_of x o ≡ None → StandsAt shifts x
unfolding refused_of
stands_of shifts x None there h = absurd cc
stands_of shifts x (Some s) there h = by (eqb x.group s.group) (bytes_eq x.word s.word) refl refl h
  where
    by : (g w : Bool) → eqb x.group s.group ≡ g → bytes_eq x.word s.word ≡ w → cond (g && w) None (Some (AnotherShift x.line)) ≡ None → StandsAt shifts x
    by true true eg ew q = record { shift = s; there = there; group = eqb-true x.group s.group eg; word = (bytes_eq-Decides x.word s.word).0 ew }
    by true false eg ew q = absurd cc
    by false w eg ew q = absurd cc

stands_at : (shifts : List Shift) (x : ShiftLabel) → refused_at x shifts ≡ None → StandsAt shifts x
unfolding refused_at
stands_at shifts x h = stands_of shifts x (numbered_shift shifts x.number) refl h

pub stand_all : (labels : List ShiftLabel) (shifts : List Shift) → refused_shift labels shifts ≡ None → StandAll shifts labels
stand_all [] shifts h = All-nil (StandsAt shifts)
stand_all (x ∷ xs) shifts h = by (refused_at x shifts) refl h (stand_all xs shifts)
  where
    by : (o : Option LabelFault) → refused_at x shifts ≡ o → or_else o (refused_shift xs shifts) ≡ None
        → (refused_shift xs shifts ≡ None → StandAll shifts xs) → StandAll shifts (x ∷ xs)
    by None e q rest = All-cons (StandsAt shifts) x xs (stands_at shifts x e) (rest q)
    by (Some f) e q rest = absurd cc
