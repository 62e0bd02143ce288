-- The lines of the table of shifts.
use Rattle.std.specs.Prelude.{ℕ, ◌+◌, ◌-◌, Bool, true, false, Option, None, Some, List, [], ◌∷◌, count_by, drop, length, min, nat_lt, slice_get, take, if◌then◌else◌}
use Rattle.std.specs.List.{flat_map}
use Rattle.model_rosters.specs.declared.grammar.CodeDef.{CodeDef}
use Rattle.model_rosters.specs.declared.instance.Instance.{Instance}
use Rattle.model_rosters.specs.declared.instance.Shift.{Shift}
use Rattle.page_labels.specs.Labels.{shift_name}
use Rattle.page_labels.specs.declared.labels.Labels.{Labels}
use Rattle.page_labels.specs.declared.labels.PaidCode.{PaidCode}
use Rattle.page_tables.specs.declared.line.ShiftLine.{ShiftLine}
use Rattle.model_shift_figures.specs.Order.{drawn_order}
use Rattle.model_shift_figures.specs.Stretches.{is_paid, is_work, stretch_of, stretches_of}
use Rattle.model_shift_figures.specs.declared.stretch.Stretch.{Stretch}
use Rattle.page_rosters.specs.Called.{group_called}
use Rattle.page_rosters.specs.Moments.{begin_text, duration, end_text, stretch_begin, stretch_end}

-- the byte of a code that counts as paid
abbrev pub marked_byte : List CodeDef → PaidCode → List ℕ
marked_byte cs p =
    if p.paid then elim (slice_get cs p.code) [ None ↦ [] | Some c ↦ c.byte ∷ [] ] else []

abbrev pub marked_bytes : List CodeDef → List PaidCode → List ℕ
marked_bytes cs said = flat_map (marked_byte cs) said

-- the line of a shift behind so many
abbrev pub line_of : Instance → Labels → List ℕ → ℕ → Shift → ShiftLine
line_of i d marked k s = record {
  number = k + 1;
  group = group_called i d s.group;
  who = shift_name d.shifts (k + 1);
  begin = stretch_begin d.clock (stretch_of i.grammar.codes s.word);
  end = stretch_end d.clock (stretch_of i.grammar.codes s.word);
  work = count_by (is_work i.grammar.codes) s.word;
  first = true;
  paid = duration d.clock (count_by (is_paid i.grammar.codes marked) s.word);
  price = s.price;
  word = s.word;
}

-- the letters of a stretch of a word
abbrev pub letters_of : List ℕ → Stretch → List ℕ
letters_of word t =
    take (min t.last (length word) - min (t.first - 1) (min t.last (length word)))
    (drop (min (t.first - 1) (min t.last (length word))) word)

-- the line of a stretch of it, which may be the first one
abbrev pub part_of : Instance → Labels → List ℕ → ℕ → Shift → Bool → Stretch → ShiftLine
part_of i d marked k s first t = record {
  number = k + 1;
  group = group_called i d s.group;
  who = shift_name d.shifts (k + 1);
  begin = begin_text d.clock t.first;
  end = end_text d.clock t.last;
  work = count_by (is_work i.grammar.codes) (letters_of s.word t);
  first = first;
  paid = duration d.clock (count_by (is_paid i.grammar.codes marked) s.word);
  price = s.price;
  word = s.word;
}

-- the lines of stretches, of which the first one is that of the shift or not
abbrev pub parts_of : Instance → Labels → List ℕ → ℕ → Shift → Bool → List Stretch → List ShiftLine
parts_of i d marked k s first [] = []
parts_of i d marked k s first (t ∷ ts) = part_of i d marked k s first t ∷ parts_of i d marked k s false ts

-- the stretches that stand in lines of their own: all, where time off is named
abbrev pub spans_of : Option ℕ → List ℕ → List Stretch
spans_of None word = []
spans_of (Some code) word = stretches_of (Some code) word

-- a line for each of these stretches of a shift, or one for the shift where there is none
unfoldable pub lines_by : Instance → Labels → List ℕ → ℕ → Shift → List Stretch → List ShiftLine
lines_by i d marked k s ts =
    if nat_lt 0 (length ts) then parts_of i d marked k s true ts else line_of i d marked k s ∷ []

-- the lines of a shift behind so many
abbrev pub shift_lines : Instance → Labels → List ℕ → ℕ → Shift → List ShiftLine
shift_lines i d marked k s = lines_by i d marked k s (spans_of d.off s.word)

-- the same, where there is a shift behind so many
abbrev pub line_at : Instance → Labels → List ℕ → List Shift → ℕ → List ShiftLine
line_at i d marked shifts k = elim (slice_get shifts k) [ None ↦ [] | Some s ↦ shift_lines i d marked k s ]

-- the lines of each shift, in the order in which they are drawn
abbrev pub lines_of : Instance → Labels → List Shift → List ShiftLine
lines_of i d shifts =
    flat_map (line_at i d (marked_bytes i.grammar.codes d.paid) shifts) (drawn_order i.grammar.codes shifts)
