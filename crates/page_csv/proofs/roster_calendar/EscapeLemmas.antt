-- The text of a value says the value, and is one that RFC 5545 admits.
use Rattle.std.proofs.Common.{◌≡◌, ℕ, Bool, true, false, cond, eqb, eqb-true, List, [], ◌∷◌, ◌++◌, refl, sym, ap, ◌∙◌}
use Rattle.std.specs.Prelude.{◌||◌, ◌&&◌, not}
use Rattle.std.proofs.lemmas.Bool.{and_from, not_from_false, or_left, or_parts}
use Rattle.page_csv.specs.roster_calendar.Escapes.{behind, escaped, escaped_byte, is_escaped, is_feed_letter, is_text, is_text_from, unescaped, unescaped_from}

-- no byte that stands behind a backslash is the letter for a line feed
no_feed : (b : ℕ) (j k : Bool) → eqb b 92 ≡ j → eqb b 59 ≡ k → ((j || k) || eqb b 44) ≡ true → is_feed_letter b ≡ false
no_feed b true k e f h = rw (eqb-true b 92 e) refl
no_feed b false true e f h = rw (eqb-true b 59 f) refl
no_feed b false false e f h = rw (eqb-true b 44 h) refl

no_back : (b : ℕ) → is_escaped b ≡ false → eqb b 92 ≡ false
no_back b h = (or_parts (eqb b 92) (eqb b 59) ((or_parts (eqb b 92 || eqb b 59) (eqb b 44) h).0)).0

says_itself : (b : ℕ) → is_escaped b ≡ true → behind b ≡ b
unfolding behind
says_itself b h = rw (no_feed b (eqb b 92) (eqb b 59) refl refl h) refl

-- an escaped byte is read as the byte, whatever follows
marked_back : (b : ℕ) (rest : List ℕ) (j : Bool) → is_escaped b ≡ j
    → unescaped_from false (cond j (92 ∷ b ∷ []) (b ∷ []) ++ rest) ≡ b ∷ unescaped_from false rest
marked_back b rest true h = ap (λ (c : ℕ). c ∷ unescaped_from false rest) (says_itself b h)
marked_back b rest false h = rw (no_back b h) refl

byte_back : (b : ℕ) (rest : List ℕ) (j : Bool) → eqb b 10 ≡ j
    → unescaped_from false (cond j (92 ∷ 110 ∷ []) (cond (is_escaped b) (92 ∷ b ∷ []) (b ∷ [])) ++ rest)
    ≡ b ∷ unescaped_from false rest
unfolding behind
byte_back b rest true e = ap (λ (c : ℕ). c ∷ unescaped_from false rest) (sym (eqb-true b 10 e))
byte_back b rest false e = marked_back b rest (is_escaped b) refl

one_back : (b : ℕ) (rest : List ℕ) → unescaped_from false (escaped_byte b ++ rest) ≡ b ∷ unescaped_from false rest
unfolding escaped_byte
one_back b rest = byte_back b rest (eqb b 10) refl

pub value_back : (value : List ℕ) → unescaped (escaped value) ≡ value
value_back [] = refl
value_back (b ∷ bs) = one_back b (escaped bs) ∙ ap (λ (t : List ℕ). b ∷ t) (value_back bs)

-- an escaped byte is part of a text, whatever follows
marked_text : (b : ℕ) (rest : List ℕ) (j : Bool) → is_escaped b ≡ j → eqb b 10 ≡ false
    → is_text_from false (cond j (92 ∷ b ∷ []) (b ∷ []) ++ rest) ≡ is_text_from false rest
marked_text b rest true h feed = rw (or_left (is_escaped b) (is_feed_letter b) h) refl
marked_text b rest false h feed =
    let two = or_parts (eqb b 92 || eqb b 59) (eqb b 44) h in
    let one = or_parts (eqb b 92) (eqb b 59) two.0 in
    rw (one.0, one.1, two.1, feed) refl

byte_text : (b : ℕ) (rest : List ℕ) (j : Bool) → eqb b 10 ≡ j
    → is_text_from false (cond j (92 ∷ 110 ∷ []) (cond (is_escaped b) (92 ∷ b ∷ []) (b ∷ [])) ++ rest)
    ≡ is_text_from false rest
byte_text b rest true e = refl
byte_text b rest false e = marked_text b rest (is_escaped b) refl e

one_text : (b : ℕ) (rest : List ℕ) → is_text_from false (escaped_byte b ++ rest) ≡ is_text_from false rest
unfolding escaped_byte
one_text b rest = byte_text b rest (eqb b 10) refl

pub value_text : (value : List ℕ) → is_text (escaped value) ≡ true
value_text [] = refl
value_text (b ∷ bs) = one_text b (escaped bs) ∙ value_text bs
