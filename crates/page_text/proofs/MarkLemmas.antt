-- The marks of a page do not depend on names and derivations, nor on the bytes of the codes.
use Rattle.std.proofs.Common.{◌≡◌, ℕ, zero, suc, ◌+◌, ◌-◌, ◌/◌, ◌%◌, List, [], ◌∷◌, ◌++◌, Bool, true, false, Option, None, Some, length, map, refl, sym, ap, subst, ◌∙◌, arith}
use Rattle.std.proofs.lemmas.List.{map-append}
use Rattle.std.proofs.lemmas.Option.{slice_get-map}
use Rattle.std.specs.List.{flat_map}
use Rattle.std.specs.Prelude.{codes, if◌then◌else◌, min, nat_lt, option_map, slice_get}
use Rattle.model_rosters.specs.declared.grammar.CodeDef.{CodeDef}
use Rattle.page_parts.specs.Amounts.{AreSaidAlike, amount, unit_behind}
use Rattle.page_parts.specs.Elements.{Element, bar, caption, each_from, given, marks, number, places, units}
use Rattle.page_parts.specs.Escapes.{IsOneToOne, mark_of, marks_of, recoded}
use Rattle.page_parts.specs.Paints.{paint_of}
use Rattle.page_parts.specs.Axes.{chart_width, middle_of, axis_of, top_of}
use Rattle.page_parts.specs.declared.money.Money.{Money}
use Rattle.page_parts.specs.declared.sheet.PeriodAxis.{PeriodAxis}
use Rattle.page_parts.proofs.AmountLemmas.{behind_same, unit_same}
use Rattle.page_parts.proofs.PaintLemmas.{same_paint, same_test}
use Rattle.page_text.specs.Costs.{amount_or_none, both_sums, bound_of, bound_part, chip, code_cost, code_costs, costs, demanded_cost, gap, is_demanded, is_told, no_roster, penalties, saves, sentence, sentence_over, sums, told}
use Rattle.model_shift_figures.specs.Bounds.{saving_at}
use Rattle.model_shift_figures.specs.Stretches.{is_off}
use Rattle.model_shift_figures.specs.declared.bound.Saving.{Saving}
use Rattle.model_shift_figures.specs.declared.bound.Saving.TheVariants.{NoneLess, Unknown, AtMost}
use Rattle.page_text.specs.declared.column.CellCover.{CellCover}
use Rattle.page_text.specs.declared.figures.Figures.{Figures}
use Rattle.page_text.specs.Alike.{AreAlikeRows, IsAlike, IsAlikeRow}
use Rattle.page_text.specs.Charts.{top_count, unit_of}
use Rattle.page_text.specs.Inputs.{longest}
use Rattle.page_text.specs.Style.{style}
use Rattle.page_text.specs.Pages.{all_show, before_title, body, chart, chart_body, chart_head, coverage, coverage_part, derivation, derivations_part, foot, foot_part, head, heading, height_of, legend, legend_item, lines_at, page, read_line, read_lines, shifts, shifts_part, size, title_of, titled_derivations, top_part, word_lines}
use Rattle.page_text.specs.RosterChart.{all_ticks, cell, cells, change_at, letter, letter_bar, letter_text, marked_cell, price_text, row_elements, row_frame, row_head, row_words, time_tick, times, who}
use Rattle.page_text.specs.RosterChart.{gap as name_gap}
use Rattle.page_text.specs.Changes.{changes_part}
use Rattle.page_text.specs.declared.changes.Changes.{Changes}
use Rattle.page_tables.proofs.TableMarks.{tables_same}
use Rattle.page_text.specs.declared.content.Content.{Content}
use Rattle.page_text.specs.declared.content.ReadText.{ReadText}
use Rattle.page_text.specs.declared.row.Row.{Row}

-- elements with the same marks
abbrev Same : List Element → List Element → Type 0
Same es fs = marks_of es ≡ marks_of fs

when : (t : Bool) (es fs : List Element) → Same es fs → Same (if t then es else []) (if t then fs else [])
when true es fs h = h
when false es fs h = refl

unless : (t : Bool) (es fs : List Element) → Same es fs → Same (if t then [] else es) (if t then [] else fs)
unless true es fs h = refl
unless false es fs h = h

-- the same elements before others
front_same : (xs es fs : List Element) → Same fs es → Same (xs ++ fs) (xs ++ es)
front_same xs es fs h =
    map-append mark_of xs fs ∙ ap (λ (t : List Element). marks_of xs ++ t) h ∙ sym (map-append mark_of xs es)

flat_same : (F G : ℕ → List Element) → ((k : ℕ) → Same (F k) (G k)) → (ks : List ℕ) → Same (flat_map F ks) (flat_map G ks)
flat_same F G h [] = refl
flat_same F G h (k ∷ ks) = simp (map-append, h k, flat_same F G h ks)

-- ---- what depends on the derivations

-- what stands behind the style
titled : List ℕ → List Element
titled t = marks (codes "</style>\n</head>\n<body>\n<main>\n<header><h1>") ∷ given (title_of t) ∷ marks (codes "</h1><p>") ∷ []

titles_same : (t u : List ℕ) (shown : List Element) → Same (marks before_title ∷ given (title_of t) ∷ marks (codes "</title>\n<style>\n") ∷ marks style ∷ (shown ++ titled t))
    (marks before_title ∷ given (title_of u) ∷ marks (codes "</title>\n<style>\n") ∷ marks style ∷ (shown ++ titled u))
unfolding titled
titles_same t u shown =
    ap (λ (m : List Element). marks before_title ∷ given [] ∷ marks (codes "</title>\n<style>\n") ∷ marks style ∷ m) (map-append mark_of shown (titled t) ∙ sym (map-append mark_of shown (titled u)))

head_same : (t u : List ℕ) (xs ys : List (List ℕ)) → length xs ≡ length ys → Same (head t xs) (head u ys)
unfolding head titled
head_same t u xs ys e = rw e (titles_same t u (all_show ys))

-- ---- what depends on the texts that were read

read_same : (xs ys : List ReadText) → length xs ≡ length ys → Same (read_lines xs) (read_lines ys)
unfolding read_line
read_same [] [] e = refl
read_same [] (y ∷ ys) e = absurd (omega arith)
read_same (x ∷ xs) [] e = absurd (omega arith)
read_same (x ∷ xs) (y ∷ ys) e =
    ap (λ (t : List Element). given [] ∷ marks (codes "  ") ∷ given [] ∷ marks (codes "\n") ∷ t) (read_same xs ys (omega arith))

foot_same : (stated : Bool) (xs ys : List ReadText) → length xs ≡ length ys → Same (foot stated xs) (foot stated ys)
unfolding foot
foot_same stated xs ys e = simp (map-append, read_same xs ys e)

foot_part_same : (stated : Bool) (xs ys : List ReadText) → length xs ≡ length ys → Same (foot_part stated xs) (foot_part stated ys)
unfolding foot_part
foot_part_same stated xs ys e =
    rw e (when (nat_lt 0 (length ys)) (foot stated xs) (foot stated ys) (foot_same stated xs ys e))

-- ---- what depends on the words that amounts are counted in

-- what stands behind whose shift a row is
abbrev word_tail : Money → Row → ℕ → List Element
word_tail m r price =
    given r.name ∷ given (name_gap r.name) ∷ given r.word ∷ marks (codes ", price ") ∷ amount m price

-- what the head of a page, the sentence, the costs and the changes come to
abbrev tops : Money → List Element → List CodeDef → Figures → List CellCover → Option Changes → List Element
tops m heads cs figures columns changes =
    heads ++ (sentence m figures.cost figures.bound ++ (marks (codes "</p></header>\n") ∷ (costs m cs figures columns ++ changes_part changes)))

module _ (m n : Money) (said : AreSaidAlike m n) where
  -- an amount with elements behind it
  amount_behind : (x : ℕ) (es fs : List Element) → Same fs es → Same (amount n x ++ fs) (amount m x ++ es)
  amount_behind x es fs h =
      ap (λ (d : ℕ). units d x ∷ marks_of (unit_behind n.words ++ fs)) said.decimals
      ∙ ap (λ (t : List Element). units m.decimals x ∷ t) (behind_same m n es fs said h)

  saves_same : (sum permille : ℕ) → Same (saves n sum permille) (saves m sum permille)
  unfolding saves
  saves_same sum permille =
      let rest : List Element = marks (codes " (") ∷ number (permille / 10) ∷ marks (codes ".") ∷ number (permille % 10) ∷ marks (codes " %).") ∷ [] in
      ap (λ (t : List Element). marks (codes "A cheaper roster saves at most ") ∷ t) (amount_behind sum rest rest refl)

  told_same : (t : Saving) → Same (told n t) (told m t)
  unfolding told
  told_same NoneLess = refl
  told_same Unknown = refl
  told_same (AtMost sum permille) = saves_same sum permille

  gap_same : (cost bound : ℕ) → Same (gap n cost bound) (gap m cost bound)
  unfolding gap
  gap_same cost bound = told_same (saving_at cost bound)

  no_roster_same : (bound : ℕ) → Same (no_roster n bound) (no_roster m bound)
  unfolding no_roster
  no_roster_same bound =
      ap (λ (t : List Element). marks (codes "No roster is stated. Each allowed roster costs at least ") ∷ t) (amount_behind bound (marks (codes ".") ∷ []) (marks (codes ".") ∷ []) refl)

  sentence_over_same : (cost : Option ℕ) (bound : ℕ) → Same (sentence_over n cost bound) (sentence_over m cost bound)
  unfolding sentence_over
  sentence_over_same None bound = no_roster_same bound
  sentence_over_same (Some cost) bound = gap_same cost bound

  sentence_same : (cost bound : Option ℕ) → Same (sentence n cost bound) (sentence m cost bound)
  unfolding sentence
  sentence_same cost None = refl
  sentence_same cost (Some bound) = sentence_over_same cost bound

  amount_or_none_same : (sum : Option ℕ) → Same (amount_or_none n sum) (amount_or_none m sum)
  unfolding amount_or_none
  amount_or_none_same None = refl
  amount_or_none_same (Some sum) = rw said.decimals (simp (map-append, unit_same m n said))

  bound_of_same : (sum : Option ℕ) → Same (bound_of n sum) (bound_of m sum)
  unfolding bound_of
  bound_of_same sum = simp (map-append, amount_or_none_same sum)

  bound_same : (cost sum : Option ℕ) → Same (bound_part n cost sum) (bound_part m cost sum)
  unfolding bound_part
  bound_same cost sum = when (is_told cost sum) (bound_of n sum) (bound_of m sum) (bound_of_same sum)

  both_sums_same : (f : Figures) → Same (both_sums n f) (both_sums m f)
  unfolding both_sums
  both_sums_same f =
      let end : List Element = marks (codes "</dd></div>") ∷ [] in
      let inner : Same (marks (codes "</dd></div><div><dt>Penalties</dt><dd>") ∷ (amount n f.penalty ++ end)) (marks (codes "</dd></div><div><dt>Penalties</dt><dd>") ∷ (amount m f.penalty ++ end))
      = ap (λ (t : List Element). marks (codes "</dd></div><div><dt>Penalties</dt><dd>") ∷ t) (amount_behind f.penalty end end refl) in
      ap (λ (t : List Element). marks (codes "<div><dt>Paid for shifts</dt><dd>") ∷ t)
      (amount_behind f.paid (marks (codes "</dd></div><div><dt>Penalties</dt><dd>") ∷ (amount m f.penalty ++ end)) (marks (codes "</dd></div><div><dt>Penalties</dt><dd>") ∷ (amount n f.penalty ++ end)) inner)

  sums_same : (f : Figures) (cost : Option ℕ) → Same (sums n f cost) (sums m f cost)
  unfolding sums
  sums_same f None = refl
  sums_same f (Some cost) = both_sums_same f

  price_same : (s : PeriodAxis) (k price : ℕ) → Same (price_text n s k price) (price_text m s k price)
  unfolding price_text
  price_same s k price =
      ap (λ (t : List Element). marks (codes "<text class='price' x='") ∷ number (chart_width s - 14) ∷ marks (codes "' y='") ∷ number (top_of k + 15) ∷ marks (codes "'>") ∷ t)
      (amount_behind price (marks (codes "</text>") ∷ []) (marks (codes "</text>") ∷ []) refl)

module _ (f : ℕ → ℕ) (one : IsOneToOne f) where
  abbrev other : CodeDef → CodeDef
  other c = record c { byte = f c.byte }

  each_same : (F G : ℕ → CodeDef → List Element) → ((k : ℕ) (c : CodeDef) → Same (F k (other c)) (G k c)) → (k : ℕ) (cs : List CodeDef) → Same (each_from F k (recoded f cs)) (each_from G k cs)
  each_same F G h k [] = refl
  each_same F G h k (c ∷ cs) = simp (map-append, h k c, each_same F G h (k + 1) cs)

  chip_same : (cs : List CodeDef) (byte : ℕ) → Same (chip (recoded f cs) (f byte)) (chip cs byte)
  unfolding chip
  chip_same cs byte = rw (same_paint f one cs byte) refl

  -- ---- costs

  demanded_same : (m n : Money) → AreSaidAlike m n → (cs : List CodeDef) (columns : List CellCover) (k : ℕ) (c : CodeDef)
      → Same (demanded_cost n (recoded f cs) columns k (other c)) (demanded_cost m cs columns k c)
  unfolding demanded_cost
  demanded_same m n said cs columns k c =
      let end : List Element = marks (codes "</dd></div>") ∷ [] in
      let sum = penalties k columns 0 in
      let chips = chip (recoded f cs) (f c.byte) in
      let before : List Element = marks (codes "</dt><dd>") ∷ (amount n sum ++ end) in
      let after : List Element = marks (codes "</dt><dd>") ∷ (amount m sum ++ end) in
      let rest : Same before after = ap (λ (t : List Element). marks (codes "</dt><dd>") ∷ t) (amount_behind m n said sum end end refl) in
      let whole : Same (chips ++ before) (chip cs c.byte ++ after)
      = map-append mark_of chips before ∙ ap (λ (t : List Element). t ++ marks_of before) (chip_same cs c.byte) ∙ ap (λ (t : List Element). marks_of (chip cs c.byte) ++ t) rest ∙ sym (map-append mark_of (chip cs c.byte) after) in
      ap (λ (t : List Element). marks (codes "<div><dt>Penalty for ") ∷ t) whole

  code_cost_same : (m n : Money) → AreSaidAlike m n → (cs : List CodeDef) (columns : List CellCover) (k : ℕ) (c : CodeDef)
      → Same (code_cost n (recoded f cs) columns k (other c)) (code_cost m cs columns k c)
  unfolding code_cost
  code_cost_same m n said cs columns k c =
      when (is_demanded k columns) (demanded_cost n (recoded f cs) columns k (other c)) (demanded_cost m cs columns k c) (demanded_same m n said cs columns k c)

  code_costs_same : (m n : Money) → AreSaidAlike m n → (cs : List CodeDef) (columns : List CellCover) → Same (code_costs n (recoded f cs) columns) (code_costs m cs columns)
  code_costs_same m n said cs columns =
      each_same (code_cost n (recoded f cs) columns) (code_cost m cs columns) (code_cost_same m n said cs columns) 0 cs

  costs_same : (m n : Money) → AreSaidAlike m n → (cs : List CodeDef) (figures : Figures) (columns : List CellCover) → Same (costs n (recoded f cs) figures columns) (costs m cs figures columns)
  unfolding costs
  costs_same m n said cs figures columns =
      simp (map-append, amount_or_none_same m n said figures.cost, bound_same m n said figures.cost figures.bound, sums_same m n said figures figures.cost, code_costs_same m n said cs columns)

  tops_same : (m n : Money) → AreSaidAlike m n → (es fs : List Element) → Same fs es → (cs : List CodeDef) (figures : Figures) (columns : List CellCover) (changes : Option Changes)
      → Same (tops n fs (recoded f cs) figures columns changes) (tops m es cs figures columns changes)
  tops_same m n said es fs h cs figures columns changes =
      simp (map-append, h, sentence_same m n said figures.cost figures.bound, costs_same m n said cs figures columns)

  top_same : (cs : List CodeDef) (c d : Content) → IsAlike f c d → Same (top_part (recoded f cs) d) (top_part cs c)
  unfolding top_part
  top_same cs c d h =
      rw (h.figures, h.columns, h.changes)
      (tops_same c.money d.money h.money (head c.title c.derivations) (head d.title d.derivations) (head_same d.title c.title d.derivations c.derivations h.derivations) cs c.figures c.columns c.changes)

  -- ---- the chart of the shifts

  legend_item_same : (cs : List CodeDef) (v w : List (List ℕ)) (k : ℕ) (c : CodeDef) → Same (legend_item (recoded f cs) v k (other c)) (legend_item cs w k c)
  unfolding legend_item
  legend_item_same cs v w k c = simp (map-append, chip_same cs c.byte)

  legend_same : (cs : List CodeDef) (v w : List (List ℕ)) → Same (legend (recoded f cs) v) (legend cs w)
  legend_same cs v w = each_same (legend_item (recoded f cs) v) (legend_item cs w) (legend_item_same cs v w) 0 cs

  bar_same : (s : PeriodAxis) (cs : List CodeDef) (k place byte : ℕ) → Same (letter_bar s (recoded f cs) k place (f byte)) (letter_bar s cs k place byte)
  unfolding letter_bar
  bar_same s cs k place byte = rw (same_paint f one cs byte) refl

  same_off : (off : Option ℕ) (byte : ℕ) → is_off (option_map f off) (f byte) ≡ is_off off byte
  same_off None byte = refl
  same_off (Some code) byte = same_test f one code byte

  text_same : (s : PeriodAxis) (cs : List CodeDef) (off : Option ℕ) (k place byte : ℕ) → Same (letter_text s (recoded f cs) (option_map f off) k place (f byte)) (letter_text s cs off k place byte)
  unfolding letter_text
  text_same s cs off k place byte =
      ap (λ (t : Bool). marks_of (if t then [] else caption (paint_of (recoded f cs) (f byte)) (middle_of s place) (top_of k + 15) (f byte ∷ []) ∷ [])) (same_off off byte)
      ∙ ap (λ (paint : List ℕ). marks_of (if is_off off byte then [] else caption paint (middle_of s place) (top_of k + 15) (f byte ∷ []) ∷ [])) (same_paint f one cs byte)
      ∙ unless (is_off off byte) (caption (paint_of cs byte) (middle_of s place) (top_of k + 15) (f byte ∷ []) ∷ []) (caption (paint_of cs byte) (middle_of s place) (top_of k + 15) (byte ∷ []) ∷ []) refl

  letter_same : (s : PeriodAxis) (cs : List CodeDef) (off : Option ℕ) (k place byte : ℕ) → Same (letter s (recoded f cs) (option_map f off) k place (f byte)) (letter s cs off k place byte)
  letter_same s cs off k place byte = simp (map-append, bar_same s cs k place byte, text_same s cs off k place byte)

  letters_same : (s : PeriodAxis) (cs : List CodeDef) (off : Option ℕ) (k place : ℕ) (o : Option ℕ)
      → Same (elim (option_map f o) [ None ↦ [] | Some byte ↦ letter s (recoded f cs) (option_map f off) k place byte ]) (elim o [ None ↦ [] | Some byte ↦ letter s cs off k place byte ])
  letters_same s cs off k place None = refl
  letters_same s cs off k place (Some byte) = letter_same s cs off k place byte

  cell_same : (s : PeriodAxis) (cs : List CodeDef) (off : Option ℕ) (k : ℕ) (word : List ℕ) (place : ℕ) → Same (cell s (recoded f cs) (option_map f off) k (map f word) place) (cell s cs off k word place)
  unfolding cell
  cell_same s cs off k word place =
      subst (λ (o : Option ℕ). Same (elim o [ None ↦ [] | Some byte ↦ letter s (recoded f cs) (option_map f off) k place byte ]) (cell s cs off k word place)) (sym (slice_get-map f word place))
      (letters_same s cs off k place (slice_get word place))

  marked_same : (s : PeriodAxis) (cs : List CodeDef) (off : Option ℕ) (k : ℕ) (r q : Row) → IsAlikeRow f r q → (place : ℕ) → Same (marked_cell s (recoded f cs) (option_map f off) k q place) (marked_cell s cs off k r place)
  marked_same s cs off k r q h place =
      let lettered : Same (cell s (recoded f cs) (option_map f off) k q.word place) (cell s cs off k r.word place)
      = ap (λ (word : List ℕ). marks_of (cell s (recoded f cs) (option_map f off) k word place)) h.word ∙ cell_same s cs off k r.word place in
      let changed : Same (change_at s k q.differs place) (change_at s k r.differs place)
      = ap (λ (ds : List Bool). marks_of (change_at s k ds place)) h.differs in
      simp (map-append, lettered, changed)

  words_same : (m n : Money) → AreSaidAlike m n → (r q : Row) → IsAlikeRow f r q → Same (row_words n q) (row_words m r)
  unfolding row_words
  words_same m n said r q h =
      let tail : Same (word_tail n q r.price) (word_tail m r r.price)
      = rw said.decimals (ap (λ (t : List Element). given [] ∷ given [] ∷ given [] ∷ marks (codes ", price ") ∷ units m.decimals r.price ∷ t) (unit_same m n said)) in
      rw (h.number, h.count, h.price) (front_same (who r.number r.count) (word_tail m r r.price) (word_tail n q r.price) tail)

  head_of_row_same : (m n : Money) → AreSaidAlike m n → (k : ℕ) (r q : Row) → IsAlikeRow f r q → Same (row_head n k q) (row_head m k r)
  unfolding row_head
  head_of_row_same m n said k r q h = simp (map-append, words_same m n said r q h)

  frame_same : (m n : Money) → AreSaidAlike m n → (s : PeriodAxis) (k : ℕ) (r q : Row) → IsAlikeRow f r q → Same (row_frame n s k q) (row_frame m s k r)
  unfolding row_frame
  frame_same m n said s k r q h =
      rw h.price
      (ap (λ (t : List Element). bar (codes "hit") (record { left = 4; top = top_of k - 2; width = chart_width s - 8; height = 26 }) ∷ caption (codes "name") (s.left - 10) (top_of k + 15) [] ∷ t) (price_same m n said s k r.price))

  row_same : (m n : Money) → AreSaidAlike m n → (s : PeriodAxis) (cs : List CodeDef) (off : Option ℕ) (k : ℕ) (r q : Row) → IsAlikeRow f r q → Same (row_elements n s (recoded f cs) (option_map f off) k q) (row_elements m s cs off k r)
  unfolding row_elements
  row_same m n said s cs off k r q h =
      let times_same : Same (times k q.number q.count) (times k r.number r.count) = rw (h.number, h.count) refl in
      let cells_same : Same (cells s (recoded f cs) (option_map f off) k q) (cells s cs off k r)
      = flat_same (marked_cell s (recoded f cs) (option_map f off) k q) (marked_cell s cs off k r) (marked_same s cs off k r q h) (places s.periods) in
      simp (map-append, head_of_row_same m n said k r q h, frame_same m n said s k r q h, times_same, cells_same)

  rows_same : (m n : Money) → AreSaidAlike m n → (s : PeriodAxis) (cs : List CodeDef) (off : Option ℕ) (k : ℕ) (rs qs : List Row) → AreAlikeRows f rs qs
      → Same (each_from (row_elements n s (recoded f cs) (option_map f off)) k qs) (each_from (row_elements m s cs off) k rs)
  rows_same m n said s cs off k [] [] h = refl
  rows_same m n said s cs off k [] (q ∷ qs) h = absurd h
  rows_same m n said s cs off k (r ∷ rs) [] h = absurd h
  rows_same m n said s cs off k (r ∷ rs) (q ∷ qs) h = simp (map-append, row_same m n said s cs off k r q h.0, rows_same m n said s cs off (k + 1) rs qs h.1)

  as_many : (rs qs : List Row) → AreAlikeRows f rs qs → length qs ≡ length rs
  as_many [] [] h = refl
  as_many [] (q ∷ qs) h = absurd h
  as_many (r ∷ rs) [] h = absurd h
  as_many (r ∷ rs) (q ∷ qs) h = ap suc (as_many rs qs h.1)

  shifts_same : (s : PeriodAxis) (cs : List CodeDef) (c d : Content) → IsAlike f c d → Same (shifts s (recoded f cs) d) (shifts s cs c)
  unfolding shifts
  shifts_same s cs c d h =
      let sized = ap (λ (n : ℕ). marks_of (size (chart_width s) (height_of n))) (as_many c.rows d.rows h.rows) in
      let ticked = ap (λ (moments : List (List ℕ)). marks_of (all_ticks s 20 moments)) h.times in
      let ended = ap (λ (moments : List (List ℕ)). marks_of (time_tick s 20 moments s.periods)) h.times in
      let rowed : Same (each_from (row_elements d.money s (recoded f cs) d.off) 0 d.rows) (each_from (row_elements c.money s cs c.off) 0 c.rows)
      = ap (λ (off : Option ℕ). marks_of (each_from (row_elements d.money s (recoded f cs) off) 0 d.rows)) h.off
      ∙ rows_same c.money d.money h.money s cs c.off 0 c.rows d.rows h.rows in
      simp (map-append, legend_same cs d.words c.words, sized, ticked, ended, rowed)

  shifts_part_same : (s : PeriodAxis) (cs : List CodeDef) (c d : Content) → IsAlike f c d → Same (shifts_part s (recoded f cs) d) (shifts_part s cs c)
  unfolding shifts_part
  shifts_part_same s cs c d h =
      rw (as_many c.rows d.rows h.rows) (when (nat_lt 0 (length c.rows)) (shifts s (recoded f cs) d) (shifts s cs c) (shifts_same s cs c d h))

  -- ---- the charts of the coverage

  chart_head_same : (cs : List CodeDef) (s : PeriodAxis) (v w : List (List ℕ)) (columns : List CellCover) (k : ℕ) (c : CodeDef) → Same (chart_head (recoded f cs) s v columns k (other c)) (chart_head cs s w columns k c)
  unfolding chart_head
  chart_head_same cs s v w columns k c = simp (map-append, chip_same cs c.byte)

  whole_chart_same : (cs : List CodeDef) (s : PeriodAxis) (v w ts : List (List ℕ)) (columns : List CellCover) (k top unit : ℕ) (c : CodeDef)
      → Same (chart_head (recoded f cs) s v columns k (other c) ++ chart_body s ts columns k top unit) (chart_head cs s w columns k c ++ chart_body s ts columns k top unit)
  whole_chart_same cs s v w ts columns k top unit c = simp (map-append, chart_head_same cs s v w columns k c)

  chart_same : (cs : List CodeDef) (s : PeriodAxis) (t u : Content) → IsAlike f t u → (k : ℕ) (c : CodeDef) → Same (chart (recoded f cs) s u k (other c)) (chart cs s t k c)
  unfolding chart
  chart_same cs s t u h k c =
      let top = top_count k t.columns 1 in
      rw (h.columns, h.times)
      (when (is_demanded k t.columns) (chart_head (recoded f cs) s u.words t.columns k (other c) ++ chart_body s t.times t.columns k top (unit_of top))
      (chart_head cs s t.words t.columns k c ++ chart_body s t.times t.columns k top (unit_of top)) (whole_chart_same cs s u.words t.words t.times t.columns k top (unit_of top) c))

  coverage_same : (cs : List CodeDef) (s : PeriodAxis) (t u : Content) → IsAlike f t u → Same (coverage (recoded f cs) s u) (coverage cs s t)
  unfolding coverage
  coverage_same cs s t u h =
      simp (map-append, each_same (chart (recoded f cs) s u) (chart cs s t) (chart_same cs s t u h) 0 cs)

  coverage_part_same : (s : PeriodAxis) (cs : List CodeDef) (t u : Content) → IsAlike f t u → Same (coverage_part s (recoded f cs) u) (coverage_part s cs t)
  unfolding coverage_part
  coverage_part_same s cs t u h =
      ap (λ (columns : List CellCover). marks_of (if nat_lt 0 (length columns) then coverage (recoded f cs) s u else [])) h.columns
      ∙ when (nat_lt 0 (length t.columns)) (coverage (recoded f cs) s u) (coverage cs s t) (coverage_same cs s t u h)

  -- ---- the derivations

  rows_at_same : (m n : Money) → AreSaidAlike m n → (rs qs : List Row) (k : ℕ) → AreAlikeRows f rs qs
      → Same (elim (slice_get qs k) [ None ↦ [] | Some r ↦ row_words n r ]) (elim (slice_get rs k) [ None ↦ [] | Some r ↦ row_words m r ])
  rows_at_same m n said [] [] k h = refl
  rows_at_same m n said [] (q ∷ qs) k h = absurd h
  rows_at_same m n said (r ∷ rs) [] k h = absurd h
  rows_at_same m n said (r ∷ rs) (q ∷ qs) zero h = words_same m n said r q h.0
  rows_at_same m n said (r ∷ rs) (q ∷ qs) (suc k) h = rows_at_same m n said rs qs k h.1

  heading_same : (m n : Money) → AreSaidAlike m n → (rs qs : List Row) (k : ℕ) → AreAlikeRows f rs qs → Same (heading n qs k) (heading m rs k)
  unfolding heading
  heading_same m n said rs qs k h = rows_at_same m n said rs qs k h

  word_lines_same : (m n : Money) → AreSaidAlike m n → (r q : Row) → IsAlikeRow f r q → Same (word_lines n q) (word_lines m r)
  unfolding word_lines
  word_lines_same m n said r q h = rw (said.decimals, h.price) refl

  lines_same : (m n : Money) → AreSaidAlike m n → (rs qs : List Row) (k : ℕ) → AreAlikeRows f rs qs
      → Same (elim (slice_get qs k) [ None ↦ [] | Some r ↦ word_lines n r ]) (elim (slice_get rs k) [ None ↦ [] | Some r ↦ word_lines m r ])
  lines_same m n said [] [] k h = refl
  lines_same m n said [] (q ∷ qs) k h = absurd h
  lines_same m n said (r ∷ rs) [] k h = absurd h
  lines_same m n said (r ∷ rs) (q ∷ qs) zero h = word_lines_same m n said r q h.0
  lines_same m n said (r ∷ rs) (q ∷ qs) (suc k) h = lines_same m n said rs qs k h.1

  lines_at_same : (m n : Money) → AreSaidAlike m n → (rs qs : List Row) (k : ℕ) → AreAlikeRows f rs qs → Same (lines_at n qs k) (lines_at m rs k)
  unfolding lines_at
  lines_at_same m n said rs qs k h = lines_same m n said rs qs k h

  derivation_same : (m n : Money) → AreSaidAlike m n → (rs qs : List Row) (k : ℕ) (x y : List ℕ) → AreAlikeRows f rs qs → Same (derivation n qs k x) (derivation m rs k y)
  unfolding derivation
  derivation_same m n said rs qs k x y h = simp (map-append, heading_same m n said rs qs k h, lines_at_same m n said rs qs k h)

  derivations_same : (m n : Money) → AreSaidAlike m n → (rs qs : List Row) (k : ℕ) (xs ys : List (List ℕ)) → AreAlikeRows f rs qs → length xs ≡ length ys
      → Same (each_from (derivation n qs) k xs) (each_from (derivation m rs) k ys)
  derivations_same m n said rs qs k [] [] h e = refl
  derivations_same m n said rs qs k [] (y ∷ ys) h e = absurd (omega arith)
  derivations_same m n said rs qs k (x ∷ xs) [] h e = absurd (omega arith)
  derivations_same m n said rs qs k (x ∷ xs) (y ∷ ys) h e =
      simp (map-append, derivation_same m n said rs qs k x y h, derivations_same m n said rs qs (k + 1) xs ys h (omega arith))

  titled_same : (m n : Money) → AreSaidAlike m n → (rs qs : List Row) (xs ys : List (List ℕ)) → AreAlikeRows f rs qs → length xs ≡ length ys → Same (titled_derivations n qs xs) (titled_derivations m rs ys)
  unfolding titled_derivations
  titled_same m n said rs qs xs ys h e = simp (map-append, derivations_same m n said rs qs 0 xs ys h e)

  derivations_part_same : (m n : Money) → AreSaidAlike m n → (rs qs : List Row) (xs ys : List (List ℕ)) → AreAlikeRows f rs qs → length xs ≡ length ys
      → Same (derivations_part n qs xs) (derivations_part m rs ys)
  unfolding derivations_part
  derivations_part_same m n said rs qs xs ys h e =
      rw e (when (nat_lt 0 (length ys)) (titled_derivations n qs xs) (titled_derivations m rs ys) (titled_same m n said rs qs xs ys h e))

  -- ---- the page

  pub body_same : (s : PeriodAxis) (cs : List CodeDef) (c d : Content) → IsAlike f c d → Same (body s (recoded f cs) d) (body s cs c)
  unfolding body
  body_same s cs c d h =
      let footed : Same (foot_part d.stated d.read) (foot_part c.stated c.read)
      = ap (λ (stated : Bool). marks_of (foot_part stated d.read)) h.stated ∙ foot_part_same c.stated d.read c.read h.read in
      simp (
        map-append,
        top_same cs c d h,
        shifts_part_same s cs c d h,
        coverage_part_same s cs c d h,
        tables_same c.money d.money c.tables d.tables h.money h.tables,
        derivations_part_same c.money d.money h.money c.rows d.rows d.derivations c.derivations h.rows h.derivations,
        footed,
      )

  same_sheet : (periods a b u v : ℕ) → min a 25 ≡ min b 25 → min u 60 ≡ min v 60 → axis_of periods a u ≡ axis_of periods b v
  same_sheet periods a b u v e g = rw (e, g) refl

  pub page_same : (periods : ℕ) (cs : List CodeDef) (c d : Content) → IsAlike f c d → min (longest d.rows 0) 25 ≡ min (longest c.rows 0) 25 → min (length d.money.words) 60 ≡ min (length c.money.words) 60
      → Same (page periods (recoded f cs) d) (page periods cs c)
  page_same periods cs c d h e g =
      ap (λ (s : PeriodAxis). marks_of (body s (recoded f cs) d)) (same_sheet periods (longest d.rows 0) (longest c.rows 0) (length d.money.words) (length c.money.words) e g)
      ∙ body_same (axis_of periods (longest c.rows 0) (length c.money.words)) cs c d h
