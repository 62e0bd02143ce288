-- Tests whether names and rules are the same.
use Rattle.std.specs.Prelude.{ℕ, Bool, true, false, ◌&&◌, nat_eq, Option, None, Some, List, [], ◌∷◌}
use lib.Pointwise.{pointwise}
use Rattle.model_rosters.specs.declared.grammar.Window.{Window}
use Rattle.plan_laws.specs.declared.period_plan.Activity.{Activity}
use Rattle.plan_laws.specs.declared.period_plan.NamedLines.{NamedLines}
use Rattle.plan_laws.specs.declared.period_plan.PeriodDuty.{PeriodDuty}
use Rattle.plan_laws.specs.declared.period_plan.PeriodPart.{PeriodPart}
use Rattle.plan_laws.specs.declared.period_plan.PeriodPart.TheVariants.{Pausing, Working}
use Rattle.plan_laws.specs.Named.{NamedRule, Symbol, coded, named}
use Rattle.plan_laws.specs.Names.{Kind, at, run, block, free_one, any_list, open_list, from, other, work, rest, off, step, steps, lead, duty, day, start, whole}

abbrev pub same_bool : Bool → Bool → Bool
same_bool true true = true
same_bool true false = false
same_bool false true = false
same_bool false false = true

abbrev pub same_window : Window → Window → Bool
same_window a b = nat_eq a.lo b.lo && nat_eq a.hi b.hi

abbrev pub same_times : Option Window → Option Window → Bool
same_times None None = true
same_times None (Some b) = false
same_times (Some a) None = false
same_times (Some a) (Some b) = same_window a b

abbrev pub same_activity : Activity → Activity → Bool
same_activity a b =
    nat_eq a.code b.code && same_bool a.work b.work && nat_eq a.least b.least && nat_eq a.greatest b.greatest
    && nat_eq a.amount b.amount

abbrev pub same_set : List Activity → List Activity → Bool
same_set s t = pointwise same_activity s t

abbrev pub same_part : PeriodPart → PeriodPart → Bool
same_part (Working s) (Working t) = same_set s t
same_part (Working s) (Pausing b begin) = false
same_part (Pausing a begin) (Working t) = false
same_part (Pausing a begin) (Pausing b times) = same_activity a b && same_times begin times

abbrev pub same_frame : PeriodDuty → PeriodDuty → Bool
same_frame d e = same_window d.length e.length && nat_eq d.cost e.cost && pointwise same_part d.parts e.parts

abbrev pub same_bounds : PeriodDuty → PeriodDuty → Bool
same_bounds d e =
    same_window d.begin e.begin && same_window d.end e.end && same_window d.stretch e.stretch
    && nat_eq d.plus e.plus

abbrev pub same_duty : PeriodDuty → PeriodDuty → Bool
same_duty d e = same_frame d e && same_bounds d e

abbrev pub same_lines : NamedLines → NamedLines → Bool
same_lines x y = pointwise nat_eq x.name y.name && pointwise same_duty x.lines y.lines

abbrev pub same_one : Option Activity → Option Activity → Bool
same_one None None = true
same_one None (Some b) = false
same_one (Some a) None = false
same_one (Some a) (Some b) = same_activity a b

abbrev pub same_line : Option NamedLines → Option NamedLines → Bool
same_line None None = true
same_line None (Some y) = false
same_line (Some x) None = false
same_line (Some x) (Some y) = same_lines x y

-- a name with its parts: its form as a number, and each part, or one that says nothing
pub record Shape : Type 0 where
  pub form : ℕ
  pub plus : ℕ
  pub set : List Activity
  pub one : Option Activity
  pub window : Option Window
  pub line : Option NamedLines
  pub lines : List NamedLines

abbrev pub bare : ℕ → Shape
bare form = record { form = form; plus = 0; set = []; one = None; window = None; line = None; lines = [] }

abbrev pub of_one : ℕ → ℕ → Activity → Shape
of_one form r a = record (bare form) { plus = r; one = Some a }

abbrev pub of_set : ℕ → ℕ → List Activity → Shape
of_set form r s = record (bare form) { plus = r; set = s }

abbrev pub of_lines : ℕ → List ℕ → List PeriodDuty → Shape
of_lines form name ds = record (bare form) { line = Some (record { name = name; lines = ds }) }

abbrev pub shape_of : Kind → Shape
shape_of (at r a) = of_one 0 r a
shape_of (run r a) = of_one 1 r a
shape_of (block r a) = of_one 2 r a
shape_of (free_one r s) = of_set 3 r s
shape_of (any_list r s) = of_set 4 r s
shape_of (open_list r s) = of_set 5 r s
shape_of (from r s a) = record (of_set 6 r s) { one = Some a }
shape_of (other r s a) = record (of_set 7 r s) { one = Some a }
shape_of (work r s long) = record (of_set 8 r s) { window = Some long }
shape_of (rest r a begin) = record (of_one 9 r a) { window = begin }
shape_of off = bare 10
shape_of step = bare 11
shape_of steps = bare 12
shape_of lead = bare 13
shape_of (duty name ds) = of_lines 14 name ds
shape_of (day name ds) = of_lines 15 name ds
shape_of (start xs) = record (bare 16) { lines = xs }

abbrev pub same_head : Shape → Shape → Bool
same_head x y = nat_eq x.form y.form && nat_eq x.plus y.plus && same_set x.set y.set

abbrev pub same_tail : Shape → Shape → Bool
same_tail x y =
    same_one x.one y.one && same_times x.window y.window && same_line x.line y.line
    && pointwise same_lines x.lines y.lines

abbrev pub same_shape : Shape → Shape → Bool
same_shape x y = same_head x y && same_tail x y

-- the names are the same
abbrev pub same : Kind → Kind → Bool
same j k = same_shape (shape_of j) (shape_of k)

abbrev pub same_symbol : Symbol Kind → Symbol Kind → Bool
same_symbol (coded a) (coded b) = nat_eq a b
same_symbol (coded a) (named k) = false
same_symbol (named j) (coded b) = false
same_symbol (named j) (named k) = same j k

-- the rules are the same
abbrev pub same_rule : NamedRule Kind → NamedRule Kind → Bool
same_rule a b =
    nat_eq a.cost b.cost && pointwise same_symbol a.right b.right && same_window a.span b.span
    && same_window a.first b.first && same_window a.last b.last
