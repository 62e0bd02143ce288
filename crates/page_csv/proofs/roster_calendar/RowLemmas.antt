-- Where the folds of a text stand, and how long its rows are.
use Rattle.std.proofs.Common.{◌≡◌, ℕ, zero, suc, ◌+◌, ◌-◌, ◌/◌, ◌%◌, ◌≤◌, ◌<◌, Bool, true, false, cond, eqb, ltb, List, [], ◌∷◌, ◌++◌, refl, sym, ap, ◌∙◌, append_assoc, arith}
use Rattle.std.specs.Prelude.{◌&&◌, not}
use Rattle.std.specs.List.{list_all}
use Rattle.std.specs.Str.{is_utf8}
use Rattle.std.proofs.Math.Dec.{leb}
use Rattle.std.proofs.Math.Utf8.{encode, encodes}
use Rattle.std.proofs.lemmas.Bool.{and_from, and_left, and_parts, and_right, le-leb, le-ltb, lt-leb, lt-ltb, ltb-false, ltb-true, not-true, true≢false}
use Rattle.std.proofs.lemmas.Str.{IsUtf8-from_is_utf8}
use Rattle.page_csv.specs.roster_calendar.Folds.{folded, folded_byte, folded_from, folds_whole, goes_on, is_line, is_narrow, is_no_return, room_behind, text_of, width}
use Rattle.page_csv.proofs.roster_calendar.FoldLemmas.{is_clear, no_returns, text_clear}

-- a byte that is no carriage return begins no fold
plain : (a : ℕ) (rest : List ℕ) → eqb a 13 ≡ false → folds_whole (a ∷ rest) ≡ folds_whole rest
plain a [] h = refl
plain a (b ∷ []) h = refl
plain a (b ∷ c ∷ []) h = refl
plain a (b ∷ c ∷ d ∷ rest) h =
    ap (λ (t : Bool). not ((t && eqb b 10 && eqb c 32) && goes_on d) && folds_whole (b ∷ c ∷ d ∷ rest)) h

-- a fold stands before a byte that goes on with no character
fold_whole : (b : ℕ) (rest : List ℕ) → goes_on b ≡ false → eqb b 13 ≡ false
    → folds_whole (13 ∷ 10 ∷ 32 ∷ b ∷ rest) ≡ folds_whole rest
fold_whole b rest g h =
    ap (λ (t : Bool). not t && folds_whole (10 ∷ 32 ∷ b ∷ rest)) g
    ∙ plain 10 (32 ∷ b ∷ rest) refl ∙ plain 32 (b ∷ rest) refl ∙ plain b rest h

-- the choice of a width
abbrev pick : Bool → Bool → Bool → Bool → ℕ
pick g a t q = cond g 0 (cond a 1 (cond t 2 (cond q 3 4)))

width_of : (f : ℕ) (g a t q : Bool) → goes_on f ≡ g → ltb f 128 ≡ a → ltb f 224 ≡ t → ltb f 240 ≡ q → width f ≡ pick g a t q
unfolding width
width_of f g a t q eg ea et eq =
    ap (λ (x : Bool). pick x (ltb f 128) (ltb f 224) (ltb f 240)) eg ∙ ap (λ (x : Bool). pick g x (ltb f 224) (ltb f 240)) ea
    ∙ ap (λ (x : Bool). pick g a x (ltb f 240)) et ∙ ap (λ (x : Bool). pick g a t x) eq

no_width : (b : ℕ) → goes_on b ≡ true → width b ≡ 0
no_width b h = width_of b true (ltb b 128) (ltb b 224) (ltb b 240) h refl refl refl

within_four : (a t q : Bool) → (1 ≤ pick false a t q) × (pick false a t q ≤ 4)
within_four true t q = (omega arith, omega arith)
within_four false true q = (omega arith, omega arith)
within_four false false true = (omega arith, omega arith)
within_four false false false = (omega arith, omega arith)

some_width : (b : ℕ) → goes_on b ≡ false → (1 ≤ width b) × (width b ≤ 4)
some_width b h =
    let e = width_of b false (ltb b 128) (ltb b 224) (ltb b 240) h refl refl refl in
    let w = within_four (ltb b 128) (ltb b 224) (ltb b 240) in
    (omega (arith, e, w.0), omega (arith, e, w.1))

-- where there is too little room for a byte's character, the byte begins one
begins : (room b : ℕ) → ltb room (width b) ≡ true → goes_on b ≡ false
begins room b h = by (goes_on b) refl
  where
    by : (g : Bool) → goes_on b ≡ g → g ≡ false
    by true e = absurd (omega (arith, no_width b e, ltb-true room (width b) h))
    by false e = refl

byte_whole : (room b : ℕ) (rest : List ℕ) (j : Bool) → ltb room (width b) ≡ j → eqb b 13 ≡ false
    → folds_whole (cond j (13 ∷ 10 ∷ 32 ∷ b ∷ []) (b ∷ []) ++ rest) ≡ folds_whole rest
byte_whole room b rest true e h = fold_whole b rest (begins room b e) h
byte_whole room b rest false e h = plain b rest h

one_whole : (room b : ℕ) (rest : List ℕ) → eqb b 13 ≡ false → folds_whole (folded_byte room b ++ rest) ≡ folds_whole rest
unfolding folded_byte
one_whole room b rest h = byte_whole room b rest (ltb room (width b)) refl h

line_whole : (room : ℕ) (line rest : List ℕ) → list_all is_no_return line ≡ true
    → folds_whole (folded_from room line ++ rest) ≡ folds_whole rest
line_whole room [] rest h = refl
line_whole room (b ∷ bs) rest h =
    let both = and_parts (is_no_return b) (list_all is_no_return bs) h in
    let next = folded_from (room_behind room b) bs in
    ap folds_whole (append_assoc (folded_byte room b) next rest) ∙ one_whole room b (next ++ rest) (not-true (eqb b 13) both.0)
    ∙ line_whole (room_behind room b) bs rest both.1

-- a line end before a text that no space begins is no fold
end_whole : (rest : List ℕ) → is_clear rest ≡ true → folds_whole (13 ∷ 10 ∷ rest) ≡ folds_whole rest
end_whole [] h = refl
end_whole (c ∷ []) h = refl
end_whole (c ∷ d ∷ bs) h =
    ap (λ (t : Bool). not (t && goes_on d) && folds_whole (10 ∷ c ∷ d ∷ bs)) (not-true (eqb c 32) h)
    ∙ plain 10 (c ∷ d ∷ bs) refl

pub text_whole : (lines : List (List ℕ)) → list_all is_line lines ≡ true → folds_whole (text_of lines) ≡ true
text_whole [] h = refl
text_whole (l ∷ ls) h =
    let both = and_parts (is_line l) (list_all is_line ls) h in
    let rest = text_of ls in
    ap folds_whole (append_assoc (folded l) (13 ∷ 10 ∷ []) rest) ∙ line_whole 75 l (13 ∷ 10 ∷ rest) (no_returns l both.0)
    ∙ end_whole rest (text_clear ls both.1) ∙ text_whole ls both.1

-- bytes are whole characters, of the first of which so many are still to come
abbrev is_whole : ℕ → List ℕ → Bool
is_whole zero [] = true
is_whole (suc n) [] = false
is_whole zero (b ∷ bs) = not (goes_on b) && is_whole (width b - 1) bs
is_whole (suc n) (b ∷ bs) = goes_on b && is_whole n bs

-- a byte that is no carriage return stands in the row
narrow_byte : (n a : ℕ) (rest : List ℕ) → eqb a 13 ≡ false → is_narrow n (a ∷ rest) ≡ is_narrow (n + 1) rest
narrow_byte n a [] h = refl
narrow_byte n a (b ∷ bs) h =
    ap (λ (t : Bool). cond (t && eqb b 10) (leb n 75 && is_narrow 0 bs) (is_narrow (n + 1) (b ∷ bs))) h

narrow_end : (n : ℕ) (rest : List ℕ) → n ≤ 75 → is_narrow n (13 ∷ 10 ∷ rest) ≡ is_narrow 0 rest
narrow_end n rest h = ap (λ (t : Bool). t && is_narrow 0 rest) (le-leb n 75 h)

narrow_fold : (n b : ℕ) (rest : List ℕ) → n ≤ 75 → eqb b 13 ≡ false → is_narrow n (13 ∷ 10 ∷ 32 ∷ b ∷ rest) ≡ is_narrow 2 rest
narrow_fold n b rest h e = narrow_end n (32 ∷ b ∷ rest) h ∙ narrow_byte 0 32 (b ∷ rest) refl ∙ narrow_byte 1 b rest e

-- what a line gives from a byte on, where so many bytes stand in its row
abbrev Narrows : List ℕ → List ℕ → Type 0
Narrows line rest =
    (n room need : ℕ) → n + room ≡ 75 → need ≤ room → is_whole need line ≡ true
    → is_narrow n (folded_from room line ++ 13 ∷ 10 ∷ rest) ≡ is_narrow 0 rest

-- behind a byte so many are still to come
abbrev next_need : ℕ → ℕ → ℕ
next_need zero b = width b - 1
next_need (suc n) b = n

next_whole : (need b : ℕ) (bs : List ℕ) → is_whole need (b ∷ bs) ≡ true → is_whole (next_need need b) bs ≡ true
next_whole zero b bs h = (and_parts (not (goes_on b)) (is_whole (width b - 1) bs) h).1
next_whole (suc n) b bs h = (and_parts (goes_on b) (is_whole n bs) h).1

-- what is still to come fits into the row of the byte
fits_folded : (need b : ℕ) (bs : List ℕ) → is_whole need (b ∷ bs) ≡ true → goes_on b ≡ false → next_need need b ≤ 73
fits_folded zero b bs h g = let w = some_width b g in omega (arith, w.1)
fits_folded (suc n) b bs h g = absurd (true≢false (sym (and_parts (goes_on b) (is_whole n bs) h).0 ∙ g))

fits_row : (room need b : ℕ) (bs : List ℕ) → is_whole need (b ∷ bs) ≡ true → need ≤ room → ltb room (width b) ≡ false
    → (1 ≤ room) × (next_need need b ≤ room - 1)
fits_row room zero b bs h le e =
    let w = some_width b (not-true (goes_on b) (and_parts (not (goes_on b)) (is_whole (width b - 1) bs) h).0) in
    let r = ltb-false room (width b) e in
    (omega (arith, w.0, r), omega (arith, w.0, r))
fits_row room (suc n) b bs h le e = (omega (arith, le), omega (arith, le))

narrow_step : (line rest : List ℕ) (n room need b : ℕ) (j : Bool) → ltb room (width b) ≡ j → eqb b 13 ≡ false
    → n + room ≡ 75 → need ≤ room → is_whole need (b ∷ line) ≡ true → Narrows line rest
    → is_narrow n (cond j (13 ∷ 10 ∷ 32 ∷ b ∷ []) (b ∷ []) ++ (folded_from (cond j 73 (room - 1)) line ++ 13 ∷ 10 ∷ rest))
    ≡ is_narrow 0 rest
narrow_step line rest n room need b true e dry sum le h ih =
    narrow_fold n b (folded_from 73 line ++ 13 ∷ 10 ∷ rest) (omega (arith, sum)) dry
    ∙ ih 2 73 (next_need need b) refl (fits_folded need b line h (begins room b e)) (next_whole need b line h)
narrow_step line rest n room need b false e dry sum le h ih =
    let fit = fits_row room need b line h le e in
    narrow_byte n b (folded_from (room - 1) line ++ 13 ∷ 10 ∷ rest) dry
    ∙ ih (n + 1) (room - 1) (next_need need b) (omega (arith, sum, fit.0)) fit.1 (next_whole need b line h)

none_need : (need : ℕ) → is_whole need [] ≡ true → need ≡ 0
none_need zero h = refl
none_need (suc n) h = absurd cc

line_narrow : (line rest : List ℕ) → list_all is_no_return line ≡ true → Narrows line rest
unfolding folded_byte room_behind
line_narrow [] rest dry n room need sum le h = narrow_end n rest (omega (arith, sum))
line_narrow (b ∷ bs) rest dry n room need sum le h =
    let both = and_parts (is_no_return b) (list_all is_no_return bs) dry in
    ap (is_narrow n) (append_assoc (folded_byte room b) (folded_from (room_behind room b) bs) (13 ∷ 10 ∷ rest))
    ∙ narrow_step bs rest n room need b (ltb room (width b)) refl (not-true (eqb b 13) both.0) sum le h (line_narrow bs rest both.1)

-- the bytes of a character in UTF-8 are whole
abbrev next : ℕ → ℕ
next bits = 128 + bits % 64

goes_next : (x : ℕ) → goes_on (next x) ≡ true
goes_next x = and_from (leb 128 (next x)) (ltb (next x) 192) (le-leb 128 (next x) (omega arith)) (lt-ltb (next x) 192 (omega arith))

goes_low : (f : ℕ) → f < 128 → goes_on f ≡ false
goes_low f h = and_left (leb 128 f) (ltb f 192) (lt-leb 128 f h)

goes_high : (f : ℕ) → 192 ≤ f → goes_on f ≡ false
goes_high f h = and_right (leb 128 f) (ltb f 192) (le-ltb f 192 h)

-- a first byte of this width, and then the rest
whole_first : (f w : ℕ) (rest : List ℕ) → goes_on f ≡ false → width f ≡ w → is_whole 0 (f ∷ rest) ≡ is_whole (w - 1) rest
whole_first f w rest g e =
    ap (λ (t : Bool). not t && is_whole (width f - 1) rest) g ∙ ap (λ (x : ℕ). is_whole (x - 1) rest) e

whole_next : (n x : ℕ) (rest : List ℕ) → is_whole (suc n) (next x ∷ rest) ≡ is_whole n rest
whole_next n x rest = ap (λ (t : Bool). t && is_whole n rest) (goes_next x)

whole_one : (c : ℕ) (rest : List ℕ) → c < 128 → is_whole 0 (c ∷ rest) ≡ is_whole 0 rest
whole_one c rest lt =
    let g = goes_low c lt in
    whole_first c 1 rest g (width_of c false true (ltb c 224) (ltb c 240) g (lt-ltb c 128 lt) refl refl)

whole_two : (f y : ℕ) (rest : List ℕ) → 192 ≤ f → f < 224 → is_whole 0 (f ∷ next y ∷ rest) ≡ is_whole 0 rest
whole_two f y rest low high =
    let g = goes_high f low in
    whole_first f 2 (next y ∷ rest) g
    (width_of f false false true (ltb f 240) g (le-ltb f 128 (omega (arith, low))) (lt-ltb f 224 high) refl)
    ∙ whole_next 0 y rest

whole_three : (f y z : ℕ) (rest : List ℕ) → 224 ≤ f → f < 240 → is_whole 0 (f ∷ next y ∷ next z ∷ rest) ≡ is_whole 0 rest
whole_three f y z rest low high =
    let g = goes_high f (omega (arith, low)) in
    whole_first f 3 (next y ∷ next z ∷ rest) g
    (width_of f false false false true g (le-ltb f 128 (omega (arith, low))) (le-ltb f 224 low) (lt-ltb f 240 high))
    ∙ whole_next 1 y (next z ∷ rest) ∙ whole_next 0 z rest

whole_four : (f y z w : ℕ) (rest : List ℕ) → 240 ≤ f → is_whole 0 (f ∷ next y ∷ next z ∷ next w ∷ rest) ≡ is_whole 0 rest
whole_four f y z w rest low =
    let g = goes_high f (omega (arith, low)) in
    whole_first f 4 (next y ∷ next z ∷ next w ∷ rest) g
    (width_of f false false false false g (le-ltb f 128 (omega (arith, low))) (le-ltb f 224 (omega (arith, low))) (le-ltb f 240 low))
    ∙ whole_next 2 y (next z ∷ next w ∷ rest) ∙ whole_next 1 z (next w ∷ rest) ∙ whole_next 0 w rest

whole_char : (c : ℕ) (rest : List ℕ) → is_whole 0 (encode c ++ rest) ≡ is_whole 0 rest
unfolding encode
whole_char c rest = by (ltb c 128) (ltb c 2048) (ltb c 65536) refl refl refl
  where
    by : (one two three : Bool) → ltb c 128 ≡ one → ltb c 2048 ≡ two → ltb c 65536 ≡ three
        → is_whole 0 (cond one (c ∷ []) (cond two ((192 + c / 64) ∷ next c ∷ [])
        (cond three ((224 + c / 4096) ∷ next (c / 64) ∷ next c ∷ [])
        ((240 + c / 262144) ∷ next (c / 4096) ∷ next (c / 64) ∷ next c ∷ []))) ++ rest) ≡ is_whole 0 rest
    by true two three e1 e2 e3 = whole_one c rest (ltb-true c 128 e1)
    by false true three e1 e2 e3 =
        whole_two (192 + c / 64) c rest (omega arith) (omega (arith, ltb-true c 2048 e2))
    by false false true e1 e2 e3 =
        whole_three (224 + c / 4096) (c / 64) c rest (omega arith) (omega (arith, ltb-true c 65536 e3))
    by false false false e1 e2 e3 = whole_four (240 + c / 262144) (c / 4096) (c / 64) c rest (omega arith)

whole_chars : (cs : List ℕ) → is_whole 0 (encodes cs) ≡ true
whole_chars [] = refl
whole_chars (c ∷ cs) = whole_char c (encodes cs) ∙ whole_chars cs

whole_utf8 : (line : List ℕ) → is_utf8 line ≡ true → is_whole 0 line ≡ true
whole_utf8 line h =
    let u = IsUtf8-from_is_utf8 line h in
    ap (is_whole 0) (sym u.1.1) ∙ whole_chars u.0

pub text_narrow : (lines : List (List ℕ)) → list_all is_line lines ≡ true → list_all is_utf8 lines ≡ true → is_narrow 0 (text_of lines) ≡ true
text_narrow [] h u = refl
text_narrow (l ∷ ls) h u =
    let both = and_parts (is_line l) (list_all is_line ls) h in
    let good = and_parts (is_utf8 l) (list_all is_utf8 ls) u in
    let rest = text_of ls in
    ap (is_narrow 0) (append_assoc (folded l) (13 ∷ 10 ∷ []) rest)
    ∙ line_narrow l rest (no_returns l both.0) 0 75 0 refl (omega arith) (whole_utf8 l good.0) ∙ text_narrow ls both.1 good.1
