-- The lines of a report are read as that report, and no others are.
use Rattle.std.proofs.Common.{◌≡◌, ℕ, zero, suc, ◌+◌, ◌*◌, true, List, [], ◌∷◌, ◌++◌, length, map, take, drop, Option, Some, None, refl, sym, ap, ◌∙◌, subst, arith, append_assoc, append-nil, length-append, length-take, length-drop}
use Rattle.std.specs.Prelude.{is_some}
use Rattle.std.specs.List.{list_all}
use Rattle.std.specs.Fmt.{decimal}
use Rattle.std.proofs.lemmas.Bool.{and_parts, and_from}
use Rattle.std.proofs.lemmas.List.{take-append-drop}
use Rattle.std.proofs.Math.Seq.{take-append_seam, drop-append_seam}
use Rattle.model_rosters.specs.declared.instance.Instance.{Instance}
use Rattle.model_rosters.specs.declared.instance.Shift.{Shift}
use Rattle.model_rosters.specs.Folds.{Each}
use Rattle.model_rosters.specs.SoundInstance.{IsSoundInstance}
use Rattle.model_rosters.proofs.EachLemmas.{Each-append}
use Rattle.text_proof_pieces.specs.PriceLines.{due_byte}
use Rattle.text_certificates.specs.Written.{shift_line}
use Rattle.text_reports.specs.declared.cover.Cover.{Cover}
use Rattle.text_reports.specs.declared.part.Part.{Part}
use Rattle.text_reports.specs.declared.part.Part.TheVariants.{Need, Have, Short, Over}
use Rattle.text_reports.specs.LineWords.{most_count, number_word, number_or_zero, is_count, count_of, covers_of}
use Rattle.text_reports.specs.Readable.{IsCount, HasCounts}
use Rattle.text_reports.specs.ReportReading.{shifts_reading, code_reading, covers_reading}
use Rattle.text_reports.specs.ReportText.{part_of, parts_of, part_line, code_lines, cover_lines}
use Rattle.text_reports.proofs.ExactReadings.{Lines, Form, IsExact, Nothing, Then, done_exact, then_exact, same_exact}
use Rattle.text_reports.proofs.LineForms as one
use Rattle.text_reports.proofs.LineForms.{Number, Header, End, Amount, OneShift, IsReadableShift, OnePart, AreCounts, part_words}
use Rattle.text_reports.proofs.NumberWords.{number_is, number_whole}

-- a line, and the lines behind it
pub line_first : (l : List (List ℕ)) (u v ls rest : Lines) → u ≡ l ∷ [] → ls ≡ u ++ v → v ≡ rest → ls ≡ l ∷ rest
line_first l u v ls rest one all more = all ∙ ap (λ (x : Lines). x ++ v) one ∙ ap (λ (x : Lines). l ∷ x) more

-- ---- shifts

abbrev pub Shifts : Instance → List Shift → ℕ → Form (List Shift)
Shifts i ss n b ls = (ts : List Shift) × (b ≡ ss ++ ts) × (length ts ≡ n) × Each (IsReadableShift i) ts × (ls ≡ map (shift_line i) ts)

pub shifts_exact : (i : Instance) → IsSoundInstance i → (ss : List Shift) (n : ℕ) → IsExact (Shifts i ss n) (shifts_reading i ss n)
shifts_exact i s ss zero = same_exact (Nothing ss) (Shifts i ss zero) (shifts_reading i ss zero) to back (done_exact ss)
  where
    to : (b : List Shift) (ls : Lines) → Nothing ss b ls → Shifts i ss zero b ls
    to b ls h = ([], h.0 ∙ sym (append-nil ss), refl, tt, h.1)

    back : (b : List Shift) (ls : Lines) → Shifts i ss zero b ls → Nothing ss b ls
    back b ls h = by h.0 h.1 h.2 h.4
      where
        by : (ts : List Shift) → b ≡ ss ++ ts → length ts ≡ 0 → ls ≡ map (shift_line i) ts → Nothing ss b ls
        by [] e l m = (e ∙ append-nil ss, m)
        by (t ∷ ts) e l m = absurd (omega (arith, l))
shifts_exact i s ss (suc n) =
    same_exact (Then (OneShift i) (λ t. Shifts i (ss ++ t ∷ []) n)) (Shifts i ss (suc n)) (shifts_reading i ss (suc n)) to back
    (then_exact (OneShift i) (λ t. Shifts i (ss ++ t ∷ []) n) _ (λ t. shifts_reading i (ss ++ t ∷ []) n) (one.shift_exact i s) (λ t. shifts_exact i s (ss ++ t ∷ []) n))
  where
    to : (b : List Shift) (ls : Lines) → Then (OneShift i) (λ t. Shifts i (ss ++ t ∷ []) n) b ls → Shifts i ss (suc n) b ls
    to b ls h =
        let k = h.4 in (
          h.0 ∷ k.0,
          k.1 ∙ append_assoc ss (h.0 ∷ []) k.0,
          omega (arith, k.2),
          (h.3.0, k.3),
          line_first (shift_line i h.0) h.1 h.2 ls (map (shift_line i) k.0) h.3.1 h.5 k.4,
        )

    back : (b : List Shift) (ls : Lines) → Shifts i ss (suc n) b ls → Then (OneShift i) (λ t. Shifts i (ss ++ t ∷ []) n) b ls
    back b ls h = by h.0 h.1 h.2 h.3 h.4
      where
        by : (ts : List Shift) → b ≡ ss ++ ts → length ts ≡ suc n → Each (IsReadableShift i) ts → ls ≡ map (shift_line i) ts → Then (OneShift i) (λ t. Shifts i (ss ++ t ∷ []) n) b ls
        by [] e l k m = absurd (omega (arith, l))
        by (t ∷ ts) e l k m =
            (t, shift_line i t ∷ [], map (shift_line i) ts, (k.0, refl), (ts, e ∙ sym (append_assoc ss (t ∷ []) ts), omega (arith, l), k.1, refl), m)

-- ---- covers

word_is_count : (w : List ℕ) → is_count w ≡ true → IsCount (count_of w) × (decimal (count_of w) ≡ w)
unfolding count_of
word_is_count w h = by (number_word most_count w) refl h
  where
    by : (o : Option ℕ) → number_word most_count w ≡ o → is_some o ≡ true → IsCount (number_or_zero o) × (decimal (number_or_zero o) ≡ w)
    by None at e = absurd cc
    by (Some n) at e = number_is most_count w n at

count_whole : (n : ℕ) → IsCount n → number_word most_count (decimal n) ≡ Some n
count_whole n h = number_whole most_count n h (omega arith)

-- the words of four parts, and how the cells are covered that they say
record Says (as' bs cs ds : List (List ℕ)) (xs : List Cover) : Type 0 where
  long : length xs ≡ length as'
  counts : Each HasCounts xs
  needs : parts_of Need xs ≡ as'
  haves : parts_of Have xs ≡ bs
  shorts : parts_of Short xs ≡ cs
  overs : parts_of Over xs ≡ ds

abbrev Counted : List (List ℕ) → Type 0
Counted ws = list_all is_count ws ≡ true

covers_say : (as' bs cs ds : List (List ℕ)) → Counted as' → Counted bs → Counted cs → Counted ds → length bs ≡ length as' → length cs ≡ length as' → length ds ≡ length as' → Says as' bs cs ds (covers_of as' bs cs ds)
unfolding covers_of
covers_say [] [] [] [] ha hb hc hd lb lc ld = record { long = refl; counts = tt; needs = refl; haves = refl; shorts = refl; overs = refl }
covers_say [] (b ∷ bs) cs ds ha hb hc hd lb lc ld = absurd (omega (arith, lb))
covers_say [] [] (c ∷ cs) ds ha hb hc hd lb lc ld = absurd (omega (arith, lc))
covers_say [] [] [] (d ∷ ds) ha hb hc hd lb lc ld = absurd (omega (arith, ld))
covers_say (a ∷ as') [] cs ds ha hb hc hd lb lc ld = absurd (omega (arith, lb))
covers_say (a ∷ as') (b ∷ bs) [] ds ha hb hc hd lb lc ld = absurd (omega (arith, lc))
covers_say (a ∷ as') (b ∷ bs) (c ∷ cs) [] ha hb hc hd lb lc ld = absurd (omega (arith, ld))
covers_say (a ∷ as') (b ∷ bs) (c ∷ cs) (d ∷ ds) ha hb hc hd lb lc ld =
    let pa = and_parts (is_count a) (list_all is_count as') ha in
    let pb = and_parts (is_count b) (list_all is_count bs) hb in
    let pc = and_parts (is_count c) (list_all is_count cs) hc in
    let pd = and_parts (is_count d) (list_all is_count ds) hd in
    let na = word_is_count a pa.0 in
    let nb = word_is_count b pb.0 in
    let nc = word_is_count c pc.0 in
    let nd = word_is_count d pd.0 in
    let k = covers_say as' bs cs ds pa.1 pb.1 pc.1 pd.1 (omega (arith, lb)) (omega (arith, lc)) (omega (arith, ld)) in
    record {
      long = omega (arith, k.long);
      counts = (record { need = na.0; have = nb.0; short = nc.0; over = nd.0 }, k.counts);
      needs = rw (na.1, k.needs) refl;
      haves = rw (nb.1, k.haves) refl;
      shorts = rw (nc.1, k.shorts) refl;
      overs = rw (nd.1, k.overs) refl;
    }

part_count : (part : Part) (c : Cover) → HasCounts c → IsCount (part_of part c)
part_count Need c h = h.need
part_count Have c h = h.have
part_count Short c h = h.short
part_count Over c h = h.over

parts_counted : (part : Part) (xs : List Cover) → Each HasCounts xs → Counted (parts_of part xs)
parts_counted part [] h = refl
parts_counted part (x ∷ xs) h =
    let first : is_count (decimal (part_of part x)) ≡ true = rw (count_whole (part_of part x) (part_count part x h.0)) refl in
    and_from _ _ first (parts_counted part xs h.1)

parts_long : (part : Part) (xs : List Cover) → length (parts_of part xs) ≡ length xs
parts_long part [] = refl
parts_long part (x ∷ xs) = let h = parts_long part xs in omega (arith, h)

count_again : (n : ℕ) → IsCount n → count_of (decimal n) ≡ n
unfolding count_of
count_again n h = rw (count_whole n h) refl

covers_again : (xs : List Cover) → Each HasCounts xs → covers_of (parts_of Need xs) (parts_of Have xs) (parts_of Short xs) (parts_of Over xs) ≡ xs
unfolding covers_of
covers_again [] h = refl
covers_again (x ∷ xs) h =
    rw (count_again x.need h.0.need, count_again x.have h.0.have, count_again x.short h.0.short, count_again x.over h.0.over, covers_again xs h.1) refl

-- how the cells of one code are covered, behind those before
abbrev pub Code : List Cover → ℕ → ℕ → Form (List Cover)
Code cs byte n b ls = (ds : List Cover) × (b ≡ cs ++ ds) × (length ds ≡ n) × Each HasCounts ds × (ls ≡ code_lines byte ds)

abbrev Fours : List Cover → ℕ → ℕ → Form (List Cover)
Fours cs byte n =
    Then (OnePart Need byte n) (λ needs. Then (OnePart Have byte n) (λ haves. Then (OnePart Short byte n) (λ shorts. Then (OnePart Over byte n) (λ overs. Nothing (cs ++ covers_of needs haves shorts overs)))))

fours_exact : (cs : List Cover) (byte n : ℕ) → IsExact (Fours cs byte n) (code_reading cs byte n)
fours_exact cs byte n =
    then_exact _ _ _ _ (one.part_exact Need byte n) (λ needs. then_exact _ _ _ _ (one.part_exact Have byte n) (λ haves.
    then_exact _ _ _ _ (one.part_exact Short byte n) (λ shorts. then_exact _ _ _ _ (one.part_exact Over byte n) (λ overs. done_exact (cs ++ covers_of needs haves shorts overs)))))

code_exact : (cs : List Cover) (byte n : ℕ) → IsExact (Code cs byte n) (code_reading cs byte n)
code_exact cs byte n = same_exact (Fours cs byte n) (Code cs byte n) (code_reading cs byte n) to back (fours_exact cs byte n)
  where
    to : (b : List Cover) (ls : Lines) → Fours cs byte n b ls → Code cs byte n b ls
    to b ls t1 =
        let t2 = t1.4 in
        let t3 = t2.4 in
        let t4 = t3.4 in
        let z = t4.4 in
        let a = t1.3.0 in
        let h = t2.3.0 in
        let s = t3.3.0 in
        let o = t4.3.0 in
        let say = covers_say t1.0 t2.0 t3.0 t4.0 a.each h.each s.each o.each (h.long ∙ sym a.long) (s.long ∙ sym a.long) (o.long ∙ sym a.long) in
        let ds : List Cover = covers_of t1.0 t2.0 t3.0 t4.0 in
        let words : (part : Part) (ws : List (List ℕ)) → parts_of part ds ≡ ws → part_words part byte ws ≡ part_line part byte ds = λ part ws e. ap (part_words part byte) (sym e) in
        let l4 : t3.2 ≡ part_line Over byte ds ∷ [] = line_first _ t4.1 t4.2 t3.2 [] (t4.3.1 ∙ ap (λ (l : List (List ℕ)). l ∷ []) (words Over t4.0 say.overs)) t4.5 z.1 in
        let l3 : t2.2 ≡ part_line Short byte ds ∷ part_line Over byte ds ∷ [] = line_first _ t3.1 t3.2 t2.2 _ (t3.3.1 ∙ ap (λ (l : List (List ℕ)). l ∷ []) (words Short t3.0 say.shorts)) t3.5 l4 in
        let l2 : t1.2 ≡ part_line Have byte ds ∷ part_line Short byte ds ∷ part_line Over byte ds ∷ [] = line_first _ t2.1 t2.2 t1.2 _ (t2.3.1 ∙ ap (λ (l : List (List ℕ)). l ∷ []) (words Have t2.0 say.haves)) t2.5 l3 in
        let l1 : ls ≡ code_lines byte ds = line_first _ t1.1 t1.2 ls _ (t1.3.1 ∙ ap (λ (l : List (List ℕ)). l ∷ []) (words Need t1.0 say.needs)) t1.5 l2 in
        (ds, z.0, say.long ∙ a.long, say.counts, l1)

    back : (b : List Cover) (ls : Lines) → Code cs byte n b ls → Fours cs byte n b ls
    back b ls h =
        let ds : List Cover = h.0 in
        let fit : (part : Part) → AreCounts n (parts_of part ds) = λ part. record { long = parts_long part ds ∙ h.2; each = parts_counted part ds h.3 } in
        let value : b ≡ cs ++ covers_of (parts_of Need ds) (parts_of Have ds) (parts_of Short ds) (parts_of Over ds) = h.1 ∙ ap (λ (x : List Cover). cs ++ x) (sym (covers_again ds h.3)) in (
          parts_of Need ds,
          part_line Need byte ds ∷ [],
          part_line Have byte ds ∷ part_line Short byte ds ∷ part_line Over byte ds ∷ [],
          (fit Need, refl),
          (
            parts_of Have ds,
            part_line Have byte ds ∷ [],
            part_line Short byte ds ∷ part_line Over byte ds ∷ [],
            (fit Have, refl),
            (
              parts_of Short ds,
              part_line Short byte ds ∷ [],
              part_line Over byte ds ∷ [],
              (fit Short, refl),
              (parts_of Over ds, part_line Over byte ds ∷ [], [], (fit Over, refl), (value, refl), refl),
              refl,
            ),
            refl,
          ),
          h.4,
        )

-- how the cells of so many codes are covered, behind those before
abbrev pub Covers : Instance → List Cover → ℕ → ℕ → Form (List Cover)
Covers i cs place k b ls = (ds : List Cover) × (b ≡ cs ++ ds) × (length ds ≡ k * i.grammar.periods) × Each HasCounts ds × (ls ≡ cover_lines i place k ds)

each_parted : (n : ℕ) (ds : List Cover) → Each HasCounts ds → Each HasCounts (take n ds) × Each HasCounts (drop n ds)
each_parted zero ds h = (tt, h)
each_parted (suc n) [] h = (tt, tt)
each_parted (suc n) (d ∷ ds) h = let p = each_parted n ds h.1 in ((h.0, p.0), p.1)

pub covers_exact : (i : Instance) (cs : List Cover) (place k : ℕ) → IsExact (Covers i cs place k) (covers_reading i cs place k)
covers_exact i cs place zero = same_exact (Nothing cs) (Covers i cs place zero) (covers_reading i cs place zero) to back (done_exact cs)
  where
    to : (b : List Cover) (ls : Lines) → Nothing cs b ls → Covers i cs place zero b ls
    to b ls h = ([], h.0 ∙ sym (append-nil cs), omega arith, tt, h.1)

    back : (b : List Cover) (ls : Lines) → Covers i cs place zero b ls → Nothing cs b ls
    back b ls h = by h.0 h.1 (omega (arith, h.2)) h.4
      where
        by : (ds : List Cover) → b ≡ cs ++ ds → length ds ≡ 0 → ls ≡ [] → Nothing cs b ls
        by [] e l m = (e ∙ append-nil cs, m)
        by (d ∷ ds) e l m = absurd (omega (arith, l))
covers_exact i cs place (suc k) =
    same_exact (Then (Code cs (due_byte i place) n) rest) (Covers i cs place (suc k)) (covers_reading i cs place (suc k)) to back
    (then_exact (Code cs (due_byte i place) n) rest (code_reading cs (due_byte i place) n) (λ es. covers_reading i es (place + n) k) (code_exact cs (due_byte i place) n) (λ es. covers_exact i es (place + n) k))
  where
    n : ℕ
    n = i.grammar.periods

    rest : List Cover → Form (List Cover)
    rest es = Covers i es (place + i.grammar.periods) k

    to : (b : List Cover) (ls : Lines) → Then (Code cs (due_byte i place) i.grammar.periods) (λ es. Covers i es (place + i.grammar.periods) k) b ls → Covers i cs place (suc k) b ls
    to b ls h =
        let f = h.3 in
        let g = h.4 in
        let all : List Cover = f.0 ++ g.0 in
        let value : b ≡ cs ++ all = g.1 ∙ ap (λ (x : List Cover). x ++ g.0) f.1 ∙ append_assoc cs f.0 g.0 in
        let long : length all ≡ suc k * i.grammar.periods = length-append f.0 g.0 ∙ omega (arith, f.2, g.2) in
        let front : take i.grammar.periods all ≡ f.0 = subst (λ (m : ℕ). take m all ≡ f.0) f.2 (take-append_seam f.0 g.0) in
        let behind : drop i.grammar.periods all ≡ g.0 = subst (λ (m : ℕ). drop m all ≡ g.0) f.2 (drop-append_seam f.0 g.0) in
        let byte : ℕ = due_byte i place in
        let both : ls ≡ code_lines byte f.0 ++ cover_lines i (place + i.grammar.periods) k g.0 =
        h.5 ∙ ap (λ (x : Lines). x ++ h.2) f.4 ∙ ap (λ (x : Lines). code_lines byte f.0 ++ x) g.4 in
        let lines : ls ≡ code_lines byte (take i.grammar.periods all) ++ cover_lines i (place + i.grammar.periods) k (drop i.grammar.periods all) =
        both ∙ ap (λ (x : List Cover). code_lines byte x ++ cover_lines i (place + i.grammar.periods) k g.0) (sym front)
        ∙ ap (λ (x : List Cover). code_lines byte (take i.grammar.periods all) ++ cover_lines i (place + i.grammar.periods) k x) (sym behind) in
        (all, value, long, Each-append HasCounts f.0 g.0 f.3 g.3, lines)

    back : (b : List Cover) (ls : Lines) → Covers i cs place (suc k) b ls → Then (Code cs (due_byte i place) i.grammar.periods) (λ es. Covers i es (place + i.grammar.periods) k) b ls
    back b ls h =
        let m : ℕ = i.grammar.periods in
        let f : List Cover = take m h.0 in
        let g : List Cover = drop m h.0 in
        let whole : f ++ g ≡ h.0 = take-append-drop m h.0 in
        let flong : length f ≡ m = omega (arith, length-take m h.0, h.2) in
        let glong : length g ≡ k * m = omega (arith, length-drop m h.0, h.2) in
        let each = each_parted m h.0 h.3 in
        let value : b ≡ (cs ++ f) ++ g = h.1 ∙ ap (λ (x : List Cover). cs ++ x) (sym whole) ∙ sym (append_assoc cs f g) in
        (cs ++ f, code_lines (due_byte i place) f, cover_lines i (place + m) k g, (f, refl, flong, each.0, refl), (g, value, glong, each.1, refl), h.4)
