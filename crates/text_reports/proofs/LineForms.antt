-- Each line of a report says its value in one way.
use Rattle.std.proofs.Common.{◌≡◌, ℕ, zero, suc, ◌+◌, ◌-◌, ◌^◌, ◌<◌, ◌≤◌, true, false, ◌&&◌, Bool, List, [], ◌∷◌, length, get_or, Option, Some, None, refl, sym, ap, ◌∙◌, subst, arith, inl, inr, ltb, eqb, cond}
use Rattle.std.specs.Prelude.{codes, slice_get, position, IfSome, ◌≢◌}
use Rattle.std.specs.List.{list_all}
use Rattle.std.specs.Option.{option_and_then}
use Rattle.std.specs.Str.{bytes_eq}
use Rattle.std.specs.Fmt.{decimal}
use Rattle.std.proofs.lemmas.Bool.{and_parts, and_from, eqb-true, eq-eqb, le-ltb, cases_lt, false_from_ne_true}
use Rattle.std.proofs.lemmas.List.Quantifiers.{position-Some}
use Rattle.std.proofs.lemmas.List.Sums.{position_or_len_is}
use Rattle.std.proofs.lemmas.Option.{slice_get-get_or}
use Rattle.text_lines.specs.Numbers.{is_plain, natural_of}
use Rattle.text_lines.proofs.FieldsLemmas.{position_at}
use Rattle.text_lines.proofs.ListLemmas.{at_least}
use Rattle.text_lines.proofs.WordLemmas.{same_bytes, the_bytes}
use Rattle.model_rosters.specs.declared.instance.Done.{Done}
use Rattle.model_rosters.specs.declared.instance.Done.TheVariants.{Equal, NoRoster, TurnsOut}
use Rattle.model_rosters.specs.declared.instance.Group.{Group}
use Rattle.model_rosters.specs.declared.instance.Instance.{Instance}
use Rattle.model_rosters.specs.declared.instance.Shift.{Shift}
use Rattle.model_rosters.specs.SoundInstance.{HasGroups, IsSoundInstance}
use Rattle.check_certificates.specs.Sound.{IsGroupNumber, IsWordByte}
use Rattle.text_proof_pieces.specs.Fields.{has_name}
use Rattle.text_proof_pieces.specs.ShiftLines.{version}
use Rattle.text_proof_pieces.proofs.FineItems.{AreFine, IsFineWord}
use Rattle.text_certificates.specs.Written.{amount_word, amount_words, name_word, shift_words, shift_line}
use Rattle.text_certificates.proofs.FineWords.{name_within}
use Rattle.text_reports.specs.declared.part.Part.{Part}
use Rattle.text_reports.specs.LineWords.{most_amount, most_count, number_word, value_word, number_said, header_said, done_of, done_said, amount_of, amount_said, group_of, letters_of, plain_said, named_said, shift_said, is_count, part_said}
use Rattle.text_reports.specs.Readable.{IsAmount}
use Rattle.text_reports.specs.Readings.{line_next}
use Rattle.text_reports.specs.ReportText.{header_line, done_word, result_line, number_line, part_name}
use Rattle.text_reports.specs.Writable.{IsWritableShift}
use Rattle.text_reports.proofs.ExactReadings.{Line, IsExact, line_exact}
use Rattle.text_reports.proofs.NumberWords.{number_is, number_whole}

-- what is said by a word behind the first
and_then_some : {A B : Type 0} (f : A → Option B) (o : Option A) (b : B) → option_and_then f o ≡ Some b → (a : A) × (o ≡ Some a) × (f a ≡ Some b)
and_then_some f None b h = absurd cc
and_then_some f (Some a) b h = (a, refl, h)

some_same : {A : Type 0} (a b : A) → Some a ≡ Some b → a ≡ b
some_same a b h = cc

-- the test that was due passed
test_held : {A : Type 0} (t : Bool) (o : Option A) (a : A) → cond t o None ≡ Some a → (t ≡ true) × (o ≡ Some a)
test_held true o a h = (refl, h)
test_held false o a h = absurd cc

value_is : (first : List ℕ) (ws : List (List ℕ)) (w : List ℕ) → value_word first ws ≡ Some w → first ∷ w ∷ [] ≡ ws
unfolding value_word
value_is first [] w h = absurd cc
value_is first (v ∷ []) w h = absurd cc
value_is first (v ∷ u ∷ []) w h =
    let t = test_held (bytes_eq v first) (Some u) w h in
    let same = some_same u w t.1 in
    let word = the_bytes v first t.0 in
    rw (word, same) refl
value_is first (v ∷ u ∷ x ∷ ws) w h = absurd cc

value_whole : (first w : List ℕ) → value_word first (first ∷ w ∷ []) ≡ Some w
unfolding value_word
value_whole first w = rw (same_bytes first) refl

-- a line of this word and of a word for a value
pair_exact : {A : Type 0} (first : List ℕ) (of_word : List ℕ → Option A) (word : A → List ℕ) (fits : A → Type 0) (x : A) → fits x
    → ((w : List ℕ) (a : A) → of_word w ≡ Some a → fits a × (word a ≡ w)) → ((a : A) → fits a → of_word (word a) ≡ Some a)
    → IsExact (Line fits (λ a. first ∷ word a ∷ [])) (line_next (λ ws. option_and_then of_word (value_word first ws)))
pair_exact {A} first of_word word fits x fit is whole =
    line_exact fits (λ a. first ∷ word a ∷ []) (λ ws. option_and_then of_word (value_word first ws)) x fit sound back
  where
    sound : (ws : List (List ℕ)) (a : A) → AreFine ws → option_and_then of_word (value_word first ws) ≡ Some a → fits a × (first ∷ word a ∷ [] ≡ ws)
    sound ws a fine h =
        let t = and_then_some of_word (value_word first ws) a h in
        let s = is t.0 a t.2 in
        (s.0, ap (λ (w : List ℕ). first ∷ w ∷ []) s.1 ∙ value_is first ws t.0 t.1)

    back : (a : A) → fits a → option_and_then of_word (value_word first (first ∷ word a ∷ [])) ≡ Some a
    back a h = ap (option_and_then of_word) (value_whole first (word a)) ∙ whole a h

-- ---- numbers

abbrev pub Number : ℕ → List ℕ → ℕ → List (List (List ℕ)) → Type 0
Number most first = Line (λ n. n ≤ most) (number_line first)

pub number_exact : (most : ℕ) (first : List ℕ) → most < 2 ^ 127 → IsExact (Number most first) (line_next (number_said most first))
unfolding number_said
number_exact most first small =
    pair_exact first (number_word most) decimal (λ n. n ≤ most) 0 (omega arith) (number_is most) (λ n h. number_whole most n h small)

-- ---- the first line

abbrev pub Header : List Group → Unit {0} → List (List (List ℕ)) → Type 0
Header groups = Line (λ _. Unit {0}) (λ _. header_line groups)

pub header_exact : (groups : List Group) → IsExact (Header groups) (line_next (header_said groups))
unfolding header_said
header_exact groups = line_exact (λ _. Unit {0}) (λ _. header_line groups) (header_said groups) tt tt sound (λ a h. whole a)
  where
    sound : (ws : List (List ℕ)) (a : Unit {0}) → AreFine ws → header_said groups ws ≡ Some a → Unit {0} × (header_line groups ≡ ws)
    sound [] a fine h = absurd cc
    sound (v ∷ []) a fine h = absurd cc
    sound (v ∷ w ∷ []) a fine h =
        let t = test_held (bytes_eq v (codes "report") && bytes_eq w (version groups)) (Some tt) a h in
        let p = and_parts (bytes_eq v (codes "report")) (bytes_eq w (version groups)) t.0 in
        let one = the_bytes v (codes "report") p.0 in
        let two = the_bytes w (version groups) p.1 in
        (tt, rw (one, two) refl)
    sound (v ∷ w ∷ x ∷ ws) a fine h = absurd cc

    whole : (a : Unit {0}) → header_said groups (header_line groups) ≡ Some a
    whole tt = rw (same_bytes (version groups)) refl

-- ---- how the search ended

done_is : (w : List ℕ) (d : Done) → done_of w ≡ Some d → Unit {0} × (done_word d ≡ w)
unfolding done_of
done_is w d h = by (bytes_eq w (codes "optimal")) refl (bytes_eq w (codes "none")) refl (bytes_eq w (codes "turns")) refl h
  where
    by : (p : Bool) → bytes_eq w (codes "optimal") ≡ p → (q : Bool) → bytes_eq w (codes "none") ≡ q → (r : Bool) → bytes_eq w (codes "turns") ≡ r
        → cond p (Some Equal) (cond q (Some NoRoster) (cond r (Some TurnsOut) None)) ≡ Some d → Unit {0} × (done_word d ≡ w)
    by true ep q eq r er e = let same = some_same Equal d e in (tt, rw (← same) (sym (the_bytes w (codes "optimal") ep)))
    by false ep true eq r er e = let same = some_same NoRoster d e in (tt, rw (← same) (sym (the_bytes w (codes "none") eq)))
    by false ep false eq true er e = let same = some_same TurnsOut d e in (tt, rw (← same) (sym (the_bytes w (codes "turns") er)))
    by false ep false eq false er e = absurd cc

done_whole : (d : Done) → done_of (done_word d) ≡ Some d
unfolding done_of
done_whole Equal = refl
done_whole NoRoster = refl
done_whole TurnsOut = refl

abbrev pub End : Done → List (List (List ℕ)) → Type 0
End = Line (λ (d : Done). Unit {0}) result_line

pub done_exact : IsExact End (line_next done_said)
unfolding done_said
done_exact = pair_exact (codes "result") done_of done_word (λ (d : Done). Unit {0}) Equal tt done_is (λ d h. done_whole d)

-- ---- costs and bounds

none_is_no_number : number_word most_amount (codes "none") ≡ None
unfolding number_word natural_of is_plain
none_is_no_number = refl

-- no number is spelled `none`
no_none : (n : ℕ) → IsAmount n → bytes_eq (decimal n) (codes "none") ≡ false
no_none n h = false_from_ne_true _ (λ t.
    let same : decimal n ≡ codes "none" = the_bytes (decimal n) (codes "none") t in
    let read : number_word most_amount (codes "none") ≡ Some n = ap (number_word most_amount) (sym same) ∙ number_whole most_amount n h (omega arith) in
    let no_number = none_is_no_number in
    cc)

amount_is : (w : List ℕ) (x : Option ℕ) → amount_of w ≡ Some x → IfSome x IsAmount × (amount_word x ≡ w)
unfolding amount_of
amount_is w x h = by (bytes_eq w (codes "none")) refl h
  where
    by : (t : Bool) → bytes_eq w (codes "none") ≡ t → cond t (Some None) (option_and_then (λ n. Some (Some n)) (number_word most_amount w)) ≡ Some x → IfSome x IsAmount × (amount_word x ≡ w)
    by true et e = let same = some_same None x e in rw (← same) (tt, sym (the_bytes w (codes "none") et))
    by false et e =
        let t = and_then_some (λ n. Some (Some n)) (number_word most_amount w) x e in
        let same = some_same (Some t.0) x t.2 in
        let n = number_is most_amount w t.0 t.1 in
        rw (← same) (n.0, n.1)

amount_whole : (x : Option ℕ) → IfSome x IsAmount → amount_of (amount_word x) ≡ Some x
unfolding amount_of
amount_whole None h = refl
amount_whole (Some n) h = rw (no_none n h, number_whole most_amount n h (omega arith)) refl

abbrev pub Amount : List ℕ → Option ℕ → List (List (List ℕ)) → Type 0
Amount first = Line (λ (x : Option ℕ). IfSome x IsAmount) (amount_words first)

pub amount_exact : (first : List ℕ) → IsExact (Amount first) (line_next (amount_said first))
unfolding amount_said
amount_exact first = pair_exact first amount_of amount_word (λ (x : Option ℕ). IfSome x IsAmount) None tt amount_is amount_whole

-- ---- shifts

-- a shift that a line can say
pub record IsReadableShift (i : Instance) (s : Shift) : Type 0 where
  pub writable : IsWritableShift i s
  pub price : IsAmount s.price

letters_are : (i : Instance) (group : ℕ) (word price : List ℕ) (s : Shift) → IsFineWord word → IsGroupNumber i.groups group → letters_of group word price ≡ Some s
    → IsReadableShift i s × (s.group ≡ group) × (s.word ≡ word) × (decimal s.price ≡ price)
unfolding letters_of
letters_are i group word price s fine number h = by (ltb 96 (length word)) refl h
  where
    made : ℕ → Shift
    made n = record { group = group; word = word; price = n }

    by : (t : Bool) → ltb 96 (length word) ≡ t → cond t None (option_and_then (λ n. Some (made n)) (number_word most_amount price)) ≡ Some s
        → IsReadableShift i s × (s.group ≡ group) × (s.word ≡ word) × (decimal s.price ≡ price)
    by true et e = absurd cc
    by false et e =
        let t = and_then_some (λ n. Some (made n)) (number_word most_amount price) s e in
        let same = some_same (made t.0) s t.2 in
        let n = number_is most_amount price t.0 t.1 in
        let writable : IsWritableShift i (made t.0) = record { some = fine.some; short = at_least 96 (length word) et; bytes = fine.bytes; group = number } in
        let is : IsReadableShift i (made t.0) = record { writable = writable; price = n.0 } in
        subst (λ (z : Shift). IsReadableShift i z × (z.group ≡ group) × (z.word ≡ word) × (decimal z.price ≡ price)) same (is, refl, refl, n.1)

letters_whole : (i : Instance) (s : Shift) → IsReadableShift i s → letters_of s.group s.word (decimal s.price) ≡ Some s
unfolding letters_of
letters_whole i s h = rw (le-ltb 96 (length s.word) h.writable.short, number_whole most_amount s.price h.price (omega arith)) refl

names_apart : (i : Instance) → IsSoundInstance i → (x y : ℕ) → x < length i.grammar.names → y < length i.grammar.names → x ≢ y → get_or i.grammar.names x [] ≡ get_or i.grammar.names y [] → ⊥
names_apart i s x y hx hy ne same = elim (cases_lt x y) [
  | inl lt ↦ s.grammar.names.apart x y (get_or i.grammar.names x []) (get_or i.grammar.names y []) lt (slice_get-get_or i.grammar.names x [] hx) (slice_get-get_or i.grammar.names y [] hy) same
  | inr ge ↦ let less : y < x = omega (arith, ne) in
      s.grammar.names.apart y x (get_or i.grammar.names y []) (get_or i.grammar.names x []) less (slice_get-get_or i.grammar.names y [] hy) (slice_get-get_or i.grammar.names x [] hx) (sym same)
]

-- the name of a group is that of no other
group_whole : (i : Instance) (g : Group) (gs : List Group) (p : ℕ) → IsSoundInstance i → HasGroups i (g ∷ gs) → i.groups ≡ g ∷ gs → p < length (g ∷ gs)
    → group_of i.grammar.names (g ∷ gs) (name_word i.grammar.names (slice_get (g ∷ gs) p)) ≡ Some (p + 1)
unfolding group_of
group_whole i g gs p s hg e lt =
    let names : List (List ℕ) = i.grammar.names in
    let all : List Group = g ∷ gs in
    let one : Group = get_or all p g in
    let at : slice_get all p ≡ Some one = slice_get-get_or all p g lt in
    let w : List ℕ = get_or names one.name [] in
    let word : name_word names (slice_get all p) ≡ w = rw at refl in
    let named : (x : Group) → x.name < length names → has_name names w x ≡ bytes_eq (get_or names x.name []) w = λ x h. rw (slice_get-get_or names x.name [] h) refl in
    let within : (j : ℕ) → j < length all → (get_or all j g).name < length names = λ j h. name_within i g gs j hg e h in
    let here : has_name names w one ≡ true = named one (within p lt) ∙ same_bytes w in
    let before : (j : ℕ) → j < p → has_name names w (get_or all j g) ≡ false = λ j jp.
    let x : Group = get_or all j g in
    let jl : j < length all = omega arith in
    let there : slice_get all j ≡ Some x = slice_get-get_or all j g jl in
    let apart : x.name ≢ one.name = (rw e at hg.1.groups.apart) j p x one jp there at in
    let differ : get_or names x.name [] ≡ w → ⊥ = λ same. names_apart i s x.name one.name (within j jl) (within p lt) apart same in
    named x (within j jl) ∙ false_from_ne_true _ (λ t. differ (the_bytes (get_or names x.name []) w t)) in
    let found : position (has_name names w) all ≡ Some p = position_at (has_name names w) all p (position_or_len_is (has_name names w) all p g (omega arith) before (λ h. here)) lt in
    ap (λ (v : List ℕ). option_and_then (λ place. Some (place + 1)) (position (has_name names v) all)) word ∙ ap (option_and_then (λ place. Some (place + 1))) found

-- the group of a name has this name
group_is : (i : Instance) (g : Group) (gs : List Group) (w : List ℕ) (n : ℕ) → HasGroups i (g ∷ gs) → i.groups ≡ g ∷ gs → group_of i.grammar.names (g ∷ gs) w ≡ Some n
    → IsGroupNumber (g ∷ gs) n × (name_word i.grammar.names (slice_get (g ∷ gs) (n - 1)) ≡ w)
unfolding group_of
group_is i g gs w n hg e h =
    let names : List (List ℕ) = i.grammar.names in
    let all : List Group = g ∷ gs in
    let t = and_then_some (λ place. Some (place + 1)) (position (has_name names w) all) n h in
    let p : ℕ = t.0 in
    let same : p + 1 ≡ n = some_same (p + 1) n t.2 in
    let found = position-Some (has_name names w) all p g t.1 in
    let place : n - 1 ≡ p = omega (arith, same) in
    let one : Group = get_or all p g in
    let at : slice_get all p ≡ Some one = slice_get-get_or all p g found.0 in
    let within : one.name < length names = name_within i g gs p hg e found.0 in
    let has : has_name names w one ≡ true = found.1 in
    let named : slice_get names one.name ≡ Some (get_or names one.name []) = slice_get-get_or names one.name [] within in
    let is : bytes_eq (get_or names one.name []) w ≡ true = rw named at has in
    let word : name_word names (slice_get all p) ≡ w = rw at (the_bytes (get_or names one.name []) w is) in
    ((omega (arith, same), omega (arith, same, found.0)), ap (λ (k : ℕ). name_word names (slice_get all k)) place ∙ word)

-- a shift whose parts are those of a line
shift_of_parts : (gs : List Group) (i : Instance) (s : Shift) (v word price : List ℕ) → gs ≡ [] → v ≡ codes "shift" → s.word ≡ word → decimal s.price ≡ price → shift_words i gs s ≡ v ∷ word ∷ price ∷ []
shift_of_parts gs i s v word price none first w p = rw (none, first, ← w, ← p) refl

plain_is : (i : Instance) (ws : List (List ℕ)) (s : Shift) → i.groups ≡ [] → AreFine ws → plain_said ws ≡ Some s → IsReadableShift i s × (shift_words i [] s ≡ ws)
unfolding plain_said
plain_is i [] s none fine h = absurd cc
plain_is i (v ∷ []) s none fine h = absurd cc
plain_is i (v ∷ word ∷ []) s none fine h = absurd cc
plain_is i (v ∷ word ∷ price ∷ []) s none fine h =
    let t = test_held (bytes_eq v (codes "shift")) (letters_of 0 word price) s h in
    let number : IsGroupNumber i.groups 0 = rw none refl in
    let l = letters_are i 0 word price s fine.1.0 number t.1 in
    (l.0, shift_of_parts [] i s v word price refl (the_bytes v (codes "shift") t.0) l.2 l.3)
plain_is i (v ∷ word ∷ price ∷ x ∷ ws) s none fine h = absurd cc

plain_whole : (i : Instance) (s : Shift) → i.groups ≡ [] → IsReadableShift i s → plain_said (shift_words i [] s) ≡ Some s
unfolding plain_said
plain_whole i s none h =
    let number : IsGroupNumber [] s.group = rw none at h.writable.group in
    rw (← number) (letters_whole i s h)

named_is : (i : Instance) (g : Group) (gs : List Group) (ws : List (List ℕ)) (s : Shift) → HasGroups i (g ∷ gs) → i.groups ≡ g ∷ gs → AreFine ws → named_said i.grammar.names (g ∷ gs) ws ≡ Some s
    → IsReadableShift i s × (shift_words i (g ∷ gs) s ≡ ws)
unfolding named_said
named_is i g gs [] s hg e fine h = absurd cc
named_is i g gs (v ∷ []) s hg e fine h = absurd cc
named_is i g gs (v ∷ name ∷ []) s hg e fine h = absurd cc
named_is i g gs (v ∷ name ∷ word ∷ []) s hg e fine h = absurd cc
named_is i g gs (v ∷ name ∷ word ∷ price ∷ []) s hg e fine h =
    let t = test_held (bytes_eq v (codes "shift")) (option_and_then (λ group. letters_of group word price) (group_of i.grammar.names (g ∷ gs) name)) s h in
    let p = and_then_some (λ group. letters_of group word price) (group_of i.grammar.names (g ∷ gs) name) s t.1 in
    let n = group_is i g gs name p.0 hg e p.1 in
    let number : IsGroupNumber i.groups p.0 = rw e n.0 in
    let l = letters_are i p.0 word price s fine.1.1.0 number p.2 in
    let first = the_bytes v (codes "shift") t.0 in
    let group : name_word i.grammar.names (slice_get (g ∷ gs) (s.group - 1)) ≡ name = ap (λ (k : ℕ). name_word i.grammar.names (slice_get (g ∷ gs) (k - 1))) l.1 ∙ n.1 in
    (l.0, rw (group, first, l.2, l.3) refl)
named_is i g gs (v ∷ name ∷ word ∷ price ∷ x ∷ ws) s hg e fine h = absurd cc

named_whole : (i : Instance) (g : Group) (gs : List Group) (s : Shift) → IsSoundInstance i → HasGroups i (g ∷ gs) → i.groups ≡ g ∷ gs → IsReadableShift i s → named_said i.grammar.names (g ∷ gs) (shift_words i (g ∷ gs) s) ≡ Some s
unfolding named_said
named_whole i g gs s sound hg e h =
    let number : IsGroupNumber (g ∷ gs) s.group = rw e at h.writable.group in
    let within : s.group - 1 < length (g ∷ gs) = omega (arith, number.0, number.1) in
    let same : s.group - 1 + 1 ≡ s.group = omega (arith, number.0) in
    rw (group_whole i g gs (s.group - 1) sound hg e within, same) (letters_whole i s h)

-- some shift that a line can say
some_shift : (i : Instance) → (s : Shift) × IsReadableShift i s
some_shift i = by i.groups refl
  where
    letter : IsWordByte 97
    letter = record { first = omega arith; last = omega arith; mark = λ e. omega (arith, e) }

    made : ℕ → Shift
    made n = record { group = n; word = 97 ∷ []; price = 0 }

    is : (n : ℕ) → IsGroupNumber i.groups n → IsReadableShift i (made n)
    is n h = record { writable = record { some = omega arith; short = omega arith; bytes = (letter, tt); group = h }; price = omega arith }

    by : (gs : List Group) → i.groups ≡ gs → (s : Shift) × IsReadableShift i s
    by [] e = (made 0, is 0 (rw e refl))
    by (g ∷ gs) e = (made 1, is 1 (rw e (omega arith, omega arith)))

abbrev pub OneShift : Instance → Shift → List (List (List ℕ)) → Type 0
OneShift i = Line (IsReadableShift i) (shift_line i)

pub shift_exact : (i : Instance) → IsSoundInstance i → IsExact (OneShift i) (line_next (shift_said i.grammar.names i.groups))
shift_exact i si = let one = some_shift i in line_exact (IsReadableShift i) (shift_line i) (shift_said i.grammar.names i.groups) one.0 one.1 sound whole
  where
    sound : (ws : List (List ℕ)) (s : Shift) → AreFine ws → shift_said i.grammar.names i.groups ws ≡ Some s → IsReadableShift i s × (shift_line i s ≡ ws)
    sound ws s fine h = by i.groups refl si.groups h
      where
        by : (gs : List Group) → i.groups ≡ gs → HasGroups i gs → shift_said i.grammar.names gs ws ≡ Some s → IsReadableShift i s × (shift_words i gs s ≡ ws)
        by [] e hg k = plain_is i ws s e fine k
        by (g ∷ gs) e hg k = named_is i g gs ws s hg e fine k

    whole : (s : Shift) → IsReadableShift i s → shift_said i.grammar.names i.groups (shift_line i s) ≡ Some s
    whole s h = by i.groups refl si.groups
      where
        by : (gs : List Group) → i.groups ≡ gs → HasGroups i gs → shift_said i.grammar.names gs (shift_words i gs s) ≡ Some s
        by [] e hg = plain_whole i s e h
        by (g ∷ gs) e hg = named_whole i g gs s si hg e h

-- ---- parts of covers

-- so many words that are numbers
pub record AreCounts (n : ℕ) (ws : List (List ℕ)) : Type 0 where
  pub long : length ws ≡ n
  pub each : list_all is_count ws ≡ true

abbrev pub part_words : Part → ℕ → List (List ℕ) → List (List ℕ)
part_words part byte ws = part_name part ∷ (byte ∷ []) ∷ ws

abbrev pub OnePart : Part → ℕ → ℕ → List (List ℕ) → List (List (List ℕ)) → Type 0
OnePart part byte n = Line (AreCounts n) (part_words part byte)

part_is : (part : Part) (byte n : ℕ) (ws vs : List (List ℕ)) → AreFine ws → part_said part byte n ws ≡ Some vs → AreCounts n vs × (part_words part byte vs ≡ ws)
unfolding part_said
part_is part byte n [] vs fine h = absurd cc
part_is part byte n (w ∷ []) vs fine h = absurd cc
part_is part byte n (w ∷ c ∷ ws) vs fine h =
    let t = test_held (bytes_eq w (part_name part) && bytes_eq c (byte ∷ []) && eqb (length ws) n && list_all is_count ws) (Some ws) vs h in
    let x = and_parts (bytes_eq w (part_name part) && bytes_eq c (byte ∷ []) && eqb (length ws) n) (list_all is_count ws) t.0 in
    let y = and_parts (bytes_eq w (part_name part) && bytes_eq c (byte ∷ [])) (eqb (length ws) n) x.0 in
    let z = and_parts (bytes_eq w (part_name part)) (bytes_eq c (byte ∷ [])) y.0 in
    let same = some_same ws vs t.1 in
    let first = the_bytes w (part_name part) z.0 in
    let second = the_bytes c (byte ∷ []) z.1 in
    let is : AreCounts n ws = record { long = eqb-true (length ws) n y.1; each = x.1 } in
    subst (λ (v : List (List ℕ)). AreCounts n v × (part_words part byte v ≡ w ∷ c ∷ ws)) same (is, rw (first, second) refl)

part_whole : (part : Part) (byte n : ℕ) (ws : List (List ℕ)) → AreCounts n ws → part_said part byte n (part_words part byte ws) ≡ Some ws
unfolding part_said
part_whole part byte n ws h = rw (same_bytes (part_name part), same_bytes (byte ∷ []), eq-eqb (length ws) n h.long, h.each) refl

zeros : (n : ℕ) → (ws : List (List ℕ)) × AreCounts n ws
zeros zero = ([], record { long = refl; each = refl })
zeros (suc n) =
    let h = zeros n in
    let one : is_count (decimal 0) ≡ true = rw (number_whole most_count 0 (omega arith) (omega arith)) refl in
    (decimal 0 ∷ h.0, record { long = omega (arith, h.1.long); each = and_from _ _ one h.1.each })

pub part_exact : (part : Part) (byte n : ℕ) → IsExact (OnePart part byte n) (line_next (part_said part byte n))
part_exact part byte n =
    let h = zeros n in line_exact (AreCounts n) (part_words part byte) (part_said part byte n) h.0 h.1 (part_is part byte n) (part_whole part byte n)
