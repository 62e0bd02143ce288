-- The rows of the chart of shifts, and their derivations.
use Rattle.std.specs.Prelude.{ℕ, ◌+◌, ◌-◌, Bool, ◌&&◌, not, None, Some, List, [], ◌∷◌, is_none, length, take, nat_eq, nat_lt, slice_get, count_by, if◌then◌else◌}
use Rattle.std.specs.List.{flat_map, list_any}
use Rattle.std.specs.Str.{bytes_eq}
use Rattle.model_rosters.specs.declared.grammar.Grammar.{Grammar}
use Rattle.model_rosters.specs.declared.instance.Group.{Group}
use Rattle.model_rosters.specs.declared.instance.Instance.{Instance}
use Rattle.model_rosters.specs.declared.instance.Shift.{Shift}
use Rattle.model_rosters.specs.Shifts.{IsPrice}
use Rattle.model_rosters.specs.Sound.{IsSound}
use Rattle.check_values.specs.group_rules.Plain.{plain_from}
use Rattle.page_labels.specs.declared.labels.Labels.{Labels}
use Rattle.page_text.specs.declared.row.Row.{Row}
use Rattle.model_shift_figures.specs.Order.{drawn_order}
use Rattle.page_rosters.specs.Called.{row_called}
use Rattle.page_derived_rules.specs.RuledTrees.{SaysWithRules}
use Rattle.page_views.specs.declared.compare.Comparison.{Comparison}

-- employees of one group with one word
abbrev pub is_same : Shift → Shift → Bool
is_same a b = nat_eq a.group b.group && bytes_eq a.word b.word

-- there are so many shifts that equal ones have one row, none is named, and there is no old roster beside
-- which each is marked
abbrev pub are_many : Labels → Comparison → List Shift → Bool
are_many d c shifts = is_none c.changes && not (nat_lt 0 (length d.shifts)) && nat_lt 40 (length shifts)

-- how many employees a row stands for
abbrev pub count_of : Labels → Comparison → List Shift → Shift → ℕ
count_of d c shifts s = if are_many d c shifts then count_by (λ (t : Shift). is_same t s) shifts else 1

-- the periods in which the shift at a place differs from its old one
abbrev pub marks_at : List (List Bool) → ℕ → List Bool
marks_at marks k = elim (slice_get marks k) [ None ↦ [] | Some it ↦ it ]

-- the row of a shift behind so many
abbrev pub row_of : Instance → Labels → Comparison → List Shift → ℕ → Shift → Row
row_of i d c shifts k s = record {
  number = k + 1;
  group = s.group;
  name = row_called i d (k + 1) s.group;
  word = s.word;
  price = s.price;
  count = count_of d c shifts s;
  differs = marks_at c.marks k;
}

-- a shift that has the row of one before it
abbrev pub has_row : Labels → Comparison → List Shift → ℕ → Shift → Bool
has_row d c shifts k s = are_many d c shifts && list_any (λ (t : Shift). is_same t s) (take k shifts)

-- the row of a shift behind so many, if it has one of its own
unfoldable pub own_row : Instance → Labels → Comparison → List Shift → ℕ → Shift → List Row
own_row i d c shifts k s = if has_row d c shifts k s then [] else row_of i d c shifts k s ∷ []

-- the same, where there is a shift behind so many
abbrev pub rows_at : Instance → Labels → Comparison → List Shift → ℕ → List Row
rows_at i d c shifts k =
    elim (slice_get shifts k) [ None ↦ [] | Some s ↦ own_row i d c shifts k s ]

-- a row for each shift, or, where there are more than 40, none has a name and there is no old roster, one for
-- all that are equal: by group, first period of work, last period of work and number
abbrev pub rows_of : Instance → Labels → Comparison → List Shift → List Row
rows_of i d c shifts = flat_map (rows_at i d c shifts) (drawn_order i.grammar.codes shifts)

-- the name that derives the words of a group
abbrev pub start_from : Grammar → List Group → ℕ → ℕ
start_from g groups group = elim (slice_get groups (group - 1)) [ None ↦ g.start | Some t ↦ t.name ]

abbrev pub start_of : Instance → ℕ → ℕ
start_of i group = start_from i.grammar i.groups group

-- the rules of a group's words: those of the rules text, from the group's name; on a day without groups
-- the day's grammar
abbrev pub rules_of : Instance → ℕ → Grammar
rules_of i group = plain_from i.grammar i.groups (start_of i group)

-- the row's word has the row's price by the rules of its group
pub record IsPricedRow (i : Instance) (r : Row) : Type 0 where
  pub sound : IsSound (rules_of i r.group)
  pub price : IsPrice (rules_of i r.group) (start_of i r.group) r.word r.price

-- how the rules of its group derive the row's word: what `explain` says of it by these rules, with status 0,
-- at the row's price, and behind each rule use the rule
abbrev pub IsDerived : Instance → Row → List ℕ → Type 0
IsDerived i r text = SaysWithRules (rules_of i r.group) r.word r.price text

abbrev pub AreDerived : Instance → List Row → List (List ℕ) → Type 0
AreDerived i [] [] = Unit {0}
AreDerived i (r ∷ rs) (text ∷ texts) = IsDerived i r text × AreDerived i rs texts
AreDerived i [] (text ∷ texts) = ⊥
AreDerived i (r ∷ rs) [] = ⊥
