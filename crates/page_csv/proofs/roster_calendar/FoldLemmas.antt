-- Without its folds the text of lines is the lines.
use Rattle.std.proofs.Common.{◌≡◌, ℕ, Bool, true, false, cond, eqb, ltb, List, [], ◌∷◌, ◌++◌, refl, sym, ap, ◌∙◌, append_assoc}
use Rattle.std.specs.Prelude.{◌&&◌, not}
use Rattle.std.specs.List.{flat_map, list_all}
use Rattle.std.proofs.lemmas.Bool.{and_parts, not-true}
use Rattle.page_csv.specs.roster_calendar.Folds.{folded, folded_byte, folded_from, is_line, is_no_return, line_text, plain_line, plain_text, room_behind, text_of, unfolded, width}

-- a byte that is no carriage return begins no fold
kept : (b : ℕ) (rest : List ℕ) → eqb b 13 ≡ false → unfolded (b ∷ rest) ≡ b ∷ unfolded rest
kept b [] h = refl
kept b (c ∷ []) h = refl
kept b (c ∷ d ∷ rest) h = rw h refl

-- a byte of a line, behind a fold or not
byte_kept : (b : ℕ) (rest : List ℕ) (j : Bool) → eqb b 13 ≡ false
    → unfolded (cond j (13 ∷ 10 ∷ 32 ∷ b ∷ []) (b ∷ []) ++ rest) ≡ b ∷ unfolded rest
byte_kept b rest true h = kept b rest h
byte_kept b rest false h = kept b rest h

one_kept : (room b : ℕ) (rest : List ℕ) → eqb b 13 ≡ false → unfolded (folded_byte room b ++ rest) ≡ b ∷ unfolded rest
unfolding folded_byte
one_kept room b rest h = byte_kept b rest (ltb room (width b)) h

-- the bytes of a line, whatever follows
line_kept : (room : ℕ) (line rest : List ℕ) → list_all is_no_return line ≡ true
    → unfolded (folded_from room line ++ rest) ≡ line ++ unfolded rest
line_kept room [] rest h = refl
line_kept room (b ∷ bs) rest h =
    let both = and_parts (is_no_return b) (list_all is_no_return bs) h in
    let next = folded_from (room_behind room b) bs in
    ap unfolded (append_assoc (folded_byte room b) next rest) ∙ one_kept room b (next ++ rest) (not-true (eqb b 13) both.0)
    ∙ ap (λ (t : List ℕ). b ∷ t) (line_kept (room_behind room b) bs rest both.1)

-- no space begins a text
abbrev pub is_clear : List ℕ → Bool
is_clear [] = true
is_clear (b ∷ bs) = not (eqb b 32)

-- a line end before such a text is no fold
end_kept : (rest : List ℕ) → is_clear rest ≡ true → unfolded (13 ∷ 10 ∷ rest) ≡ 13 ∷ 10 ∷ unfolded rest
end_kept [] h = refl
end_kept (b ∷ bs) h =
    rw (not-true (eqb b 32) h) (ap (λ (t : List ℕ). 13 ∷ t) (kept 10 (b ∷ bs) refl))

byte_clear : (b : ℕ) (rest : List ℕ) (j : Bool) → not (eqb b 32) ≡ true
    → is_clear (cond j (13 ∷ 10 ∷ 32 ∷ b ∷ []) (b ∷ []) ++ rest) ≡ true
byte_clear b rest true h = refl
byte_clear b rest false h = h

first_clear : (room b : ℕ) (rest end : List ℕ) → not (eqb b 32) ≡ true → is_clear ((folded_byte room b ++ rest) ++ end) ≡ true
unfolding folded_byte
first_clear room b rest end h =
    ap is_clear (append_assoc (folded_byte room b) rest end) ∙ byte_clear b (rest ++ end) (ltb room (width b)) h

pub text_clear : (lines : List (List ℕ)) → list_all is_line lines ≡ true → is_clear (text_of lines) ≡ true
text_clear [] h = refl
text_clear ([] ∷ lines) h = refl
text_clear ((b ∷ bs) ∷ lines) h =
    let first = (and_parts (not (eqb b 32)) (list_all is_no_return (b ∷ bs)) ((and_parts (is_line (b ∷ bs)) (list_all is_line lines) h).0)).0 in
    let rest = folded_from (room_behind 75 b) bs in
    ap is_clear (append_assoc (folded (b ∷ bs)) (13 ∷ 10 ∷ []) (text_of lines)) ∙ first_clear 75 b rest (13 ∷ 10 ∷ text_of lines) first

pub no_returns : (line : List ℕ) → is_line line ≡ true → list_all is_no_return line ≡ true
no_returns [] h = refl
no_returns (b ∷ bs) h = (and_parts (not (eqb b 32)) (list_all is_no_return (b ∷ bs)) h).1

pub lines_back : (lines : List (List ℕ)) → list_all is_line lines ≡ true → unfolded (text_of lines) ≡ plain_text lines
lines_back [] h = refl
lines_back (l ∷ ls) h =
    let both = and_parts (is_line l) (list_all is_line ls) h in
    let rest = text_of ls in
    ap unfolded (append_assoc (folded l) (13 ∷ 10 ∷ []) rest) ∙ line_kept 75 l (13 ∷ 10 ∷ rest) (no_returns l both.0)
    ∙ ap (λ (t : List ℕ). l ++ t) (end_kept rest (text_clear ls both.1) ∙ ap (λ (t : List ℕ). 13 ∷ 10 ∷ t) (lines_back ls both.1))
    ∙ sym (append_assoc l (13 ∷ 10 ∷ []) (plain_text ls))
