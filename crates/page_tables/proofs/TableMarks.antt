-- The marks of the tables do not depend on bytes of the texts.
use Rattle.std.proofs.Common.{◌≡◌, ℕ, suc, List, [], ◌∷◌, ◌++◌, Bool, true, false, Option, length, refl, ap, ◌∙◌}
use Rattle.std.proofs.lemmas.List.{map-append}
use Rattle.std.specs.List.{flat_map}
use Rattle.std.specs.Prelude.{codes, if◌then◌else◌, nat_lt}
use Rattle.page_parts.specs.Amounts.{AreSaidAlike}
use Rattle.page_parts.specs.Elements.{Element, given, marks, number, units}
use Rattle.page_parts.specs.Escapes.{marks_of}
use Rattle.page_parts.specs.declared.money.Money.{Money}
use Rattle.page_parts.proofs.AmountLemmas.{behind_same}
use Rattle.page_tables.specs.Alike.{AreAlike, IsAlikeHead, IsAlikeMoment, IsAlikeRun, IsAlikeShift, IsAlikeTables, IsAlikeTotal}
use Rattle.page_tables.specs.HeadTable.{head_end, head_line, head_table}
use Rattle.page_tables.specs.MomentTable.{moment_line, moment_list, moment_table}
use Rattle.page_tables.specs.RunLists.{run_end, run_front, run_line, run_list, run_table}
use Rattle.page_tables.specs.ShiftTable.{first_cells, last_cells, line_end, line_front, shift_line, shift_table, text_cell, text_cell_if}
use Rattle.page_tables.specs.Tables.{page_tables, some_tables}
use Rattle.page_tables.specs.TotalTable.{all_line, share_cell, total_front, total_line, total_table}
use Rattle.page_tables.specs.declared.line.HeadLine.{HeadLine}
use Rattle.page_tables.specs.declared.line.MomentLine.{MomentLine}
use Rattle.page_tables.specs.declared.line.RunLine.{RunLine}
use Rattle.page_tables.specs.declared.line.ShiftLine.{ShiftLine}
use Rattle.page_tables.specs.declared.line.TotalLine.{TotalLine}
use Rattle.page_tables.specs.declared.tables.Tables.{Tables}

-- elements with the same marks
abbrev Same : List Element → List Element → Type 0
Same es fs = marks_of es ≡ marks_of fs

when : (t : Bool) (es fs : List Element) → Same es fs → Same (if t then es else []) (if t then fs else [])
when true es fs h = h
when false es fs h = refl

each_same : {A : Type 0} (R : A → A → Type 0) (F G : A → List Element) → ((x y : A) → R x y → Same (G y) (F x)) → (xs ys : List A) → AreAlike R xs ys → Same (flat_map G ys) (flat_map F xs)
each_same R F G h [] [] a = refl
each_same R F G h [] (y ∷ ys) a = absurd a
each_same R F G h (x ∷ xs) [] a = absurd a
each_same R F G h (x ∷ xs) (y ∷ ys) a = simp (map-append, h x y a.0, each_same R F G h xs ys a.1)

as_many : {A : Type 0} (R : A → A → Type 0) (xs ys : List A) → AreAlike R xs ys → length ys ≡ length xs
as_many R [] [] a = refl
as_many R [] (y ∷ ys) a = absurd a
as_many R (x ∷ xs) [] a = absurd a
as_many R (x ∷ xs) (y ∷ ys) a = ap suc (as_many R xs ys a.1)

-- ---- shifts

cell_same : (shown : Bool) (x y : List ℕ) → Same (text_cell_if shown x) (text_cell_if shown y)
unfolding text_cell_if text_cell
cell_same true x y = refl
cell_same false x y = refl

-- what stands behind the number of a line
abbrev front_rest : Bool → Bool → ShiftLine → List Element
front_rest grouped named l =
    text_cell_if grouped l.group ++ (text_cell_if named l.who ++ marks (codes "<td>") ∷ given l.begin ∷ marks (codes "</td><td>") ∷ given l.end ∷ [])

front_same : (grouped named : Bool) (l m : ShiftLine) → IsAlikeShift l m → Same (line_front grouped named m) (line_front grouped named l)
unfolding line_front
front_same grouped named l m h =
    let whole : Same (front_rest grouped named m) (front_rest grouped named l)
    = simp (map-append, cell_same grouped m.group l.group, cell_same named m.who l.who) in
    ap (λ (t : List Element). marks (codes "<tr><td>") ∷ number m.number ∷ marks (codes "</td>") ∷ t) whole
    ∙ ap (λ (n : ℕ). marks (codes "<tr><td>") ∷ number n ∷ marks (codes "</td>") ∷ marks_of (front_rest grouped named l)) h.number

-- what stands behind the price
abbrev word_end : List ℕ → List Element
word_end word = marks (codes "</td><td class='word'>") ∷ given word ∷ marks (codes "</td>") ∷ []

firsts_same : (a b : Money) (l m : ShiftLine) → AreSaidAlike a b → IsAlikeShift l m → Same (first_cells b m) (first_cells a l)
unfolding first_cells
firsts_same a b l m said h =
    rw (h.price, said.decimals)
    (ap (λ (t : List Element). marks (codes "<td>") ∷ given [] ∷ marks (codes "</td><td>") ∷ units a.decimals l.price ∷ t)
    (behind_same a b (word_end l.word) (word_end m.word) said refl))

-- the cells of a first line, or of a further one
first_or : (t : Bool) (es fs gs : List Element) → Same es fs → Same (if t then es else gs) (if t then fs else gs)
first_or true es fs gs h = h
first_or false es fs gs h = refl

lasts_same : (a b : Money) (l m : ShiftLine) → AreSaidAlike a b → IsAlikeShift l m → Same (last_cells b m) (last_cells a l)
unfolding last_cells
lasts_same a b l m said h =
    ap (λ (t : Bool). marks_of (if t then first_cells b m else marks (codes "<td></td><td></td><td></td>") ∷ [])) h.first
    ∙ first_or l.first (first_cells b m) (first_cells a l) (marks (codes "<td></td><td></td><td></td>") ∷ []) (firsts_same a b l m said h)

end_same : (a b : Money) (l m : ShiftLine) → AreSaidAlike a b → IsAlikeShift l m → Same (line_end b m) (line_end a l)
unfolding line_end
end_same a b l m said h =
    let rest : Same (last_cells b m ++ marks (codes "</tr>\n") ∷ []) (last_cells a l ++ marks (codes "</tr>\n") ∷ []) = simp (map-append, lasts_same a b l m said h) in
    ap (λ (t : List Element). marks (codes "</td><td>") ∷ number m.work ∷ marks (codes "</td>") ∷ t) rest
    ∙ ap (λ (n : ℕ). marks (codes "</td><td>") ∷ number n ∷ marks (codes "</td>") ∷ marks_of (last_cells a l ++ marks (codes "</tr>\n") ∷ [])) h.work

line_same : (a b : Money) (grouped named : Bool) → AreSaidAlike a b → (l m : ShiftLine) → IsAlikeShift l m → Same (shift_line b grouped named m) (shift_line a grouped named l)
line_same a b grouped named said l m h = simp (map-append, front_same grouped named l m h, end_same a b l m said h)

shifts_same : (a b : Money) (grouped named : Bool) (ls ms : List ShiftLine) → AreSaidAlike a b → AreAlike IsAlikeShift ls ms → Same (shift_table b grouped named ms) (shift_table a grouped named ls)
unfolding shift_table
shifts_same a b grouped named ls ms said h =
    simp (map-append, each_same IsAlikeShift (shift_line a grouped named) (shift_line b grouped named) (line_same a b grouped named said) ls ms h)

-- ---- times

moment_same : (l m : MomentLine) → IsAlikeMoment l m → Same (moment_line m) (moment_line l)
unfolding moment_line
moment_same l m h = rw (h.begins, h.ends) refl

moment_table_same : (ls ms : List MomentLine) → AreAlike IsAlikeMoment ls ms → Same (moment_table ms) (moment_table ls)
unfolding moment_table
moment_table_same ls ms h = simp (map-append, each_same IsAlikeMoment moment_line moment_line moment_same ls ms h)

moments_same : (ls ms : List MomentLine) → AreAlike IsAlikeMoment ls ms → Same (moment_list ms) (moment_list ls)
unfolding moment_list
moments_same ls ms h =
    rw (as_many IsAlikeMoment ls ms h) (when (nat_lt 0 (length ls)) (moment_table ms) (moment_table ls) (moment_table_same ls ms h))

-- ---- codes

total_front_same : (l m : TotalLine) → IsAlikeTotal l m → Same (total_front m) (total_front l)
unfolding total_front
total_front_same l m h = rw h.total refl

total_same : (l m : TotalLine) → IsAlikeTotal l m → Same (total_line m) (total_line l)
unfolding total_line
total_same l m h =
    let shared : Same (share_cell m.share) (share_cell l.share) = ap (λ (s : Option ℕ). marks_of (share_cell s)) h.share in
    simp (map-append, total_front_same l m h, shared)

totals_same : (ls ms : List TotalLine) (covered : Option ℕ) → AreAlike IsAlikeTotal ls ms → Same (total_table ms covered) (total_table ls covered)
unfolding total_table
totals_same ls ms covered h = simp (map-append, each_same IsAlikeTotal total_line total_line total_same ls ms h)

-- ---- employees

head_end_same : (l m : HeadLine) → IsAlikeHead l m → Same (head_end m) (head_end l)
unfolding head_end
head_end_same l m h = rw (h.count, h.least, h.most) refl

head_same : (l m : HeadLine) → IsAlikeHead l m → Same (head_line m) (head_line l)
unfolding head_line
head_same l m h = simp (map-append, head_end_same l m h)

heads_same : (ls ms : List HeadLine) → AreAlike IsAlikeHead ls ms → Same (head_table ms) (head_table ls)
unfolding head_table
heads_same ls ms h = simp (map-append, each_same IsAlikeHead head_line head_line head_same ls ms h)

-- ---- runs

run_front_same : (l m : RunLine) → Same (run_front m) (run_front l)
unfolding run_front
run_front_same l m = refl

run_end_same : (a b : Money) (l m : RunLine) → AreSaidAlike a b → IsAlikeRun l m → Same (run_end b m) (run_end a l)
unfolding run_end
run_end_same a b l m said h =
    rw (h.count, h.cost, said.decimals)
    (ap (λ (t : List Element). marks (codes "</td><td>") ∷ number l.count ∷ marks (codes "</td><td>") ∷ units a.decimals l.cost ∷ t)
    (behind_same a b (marks (codes "</td></tr>\n") ∷ []) (marks (codes "</td></tr>\n") ∷ []) said refl))

run_same : (a b : Money) → AreSaidAlike a b → (l m : RunLine) → IsAlikeRun l m → Same (run_line b m) (run_line a l)
run_same a b said l m h = simp (map-append, run_front_same l m, run_end_same a b l m said h)

run_table_same : (a b : Money) (title : List ℕ) (ls ms : List RunLine) → AreSaidAlike a b → AreAlike IsAlikeRun ls ms → Same (run_table b title ms) (run_table a title ls)
unfolding run_table
run_table_same a b title ls ms said h =
    simp (map-append, each_same IsAlikeRun (run_line a) (run_line b) (run_same a b said) ls ms h)

run_list_same : (a b : Money) (title : List ℕ) (ls ms : List RunLine) → AreSaidAlike a b → AreAlike IsAlikeRun ls ms → Same (run_list b title ms) (run_list a title ls)
unfolding run_list
run_list_same a b title ls ms said h =
    rw (as_many IsAlikeRun ls ms h) (when (nat_lt 0 (length ls)) (run_table b title ms) (run_table a title ls) (run_table_same a b title ls ms said h))

-- ---- all of them

some_same : (a b : Money) (t u : Tables) → AreSaidAlike a b → IsAlikeTables t u → Same (some_tables b u) (some_tables a t)
unfolding some_tables
some_same a b t u said h =
    let totals : Same (total_table u.totals u.covered) (total_table t.totals t.covered)
    = ap (λ (s : Option ℕ). marks_of (total_table u.totals s)) h.covered ∙ totals_same t.totals u.totals t.covered h.totals in
    let shifts : Same (shift_table b u.grouped u.named u.shifts) (shift_table a t.grouped t.named t.shifts)
    = ap (λ (g : Bool). marks_of (shift_table b g u.named u.shifts)) h.grouped
    ∙ ap (λ (g : Bool). marks_of (shift_table b t.grouped g u.shifts)) h.named
    ∙ shifts_same a b t.grouped t.named t.shifts u.shifts said h.shifts in
    simp (
      map-append,
      run_list_same a b (codes "Shortages") t.shortages u.shortages said h.shortages,
      run_list_same a b (codes "Surplus") t.surplus u.surplus said h.surplus,
      totals,
      heads_same t.heads u.heads h.heads,
      moments_same t.moments u.moments h.moments,
      shifts,
    )

pub tables_same : (a b : Money) (t u : Tables) → AreSaidAlike a b → IsAlikeTables t u → Same (page_tables b u) (page_tables a t)
unfolding page_tables
tables_same a b t u said h =
    rw (as_many IsAlikeShift t.shifts u.shifts h.shifts) (when (nat_lt 0 (length t.shifts)) (some_tables b u) (some_tables a t) (some_same a b t u said h))
