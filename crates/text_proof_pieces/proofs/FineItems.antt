-- The words of a text have the bytes of words.
use Rattle.std.proofs.Common.{◌≡◌, ℕ, ◌+◌, ◌≤◌, Bool, true, false, cond, not, ◌&&◌, ◌||◌, leb, eqb, List, [], ◌∷◌, length, take, Result, Ok, Err, refl, arith, add-one, add_comm}
use Rattle.std.specs.Prelude.{filter}
use Rattle.std.specs.List.{slice_split, onto_first, list_all, position_or_len}
use Rattle.std.specs.Str.Lines.{lines}
use Rattle.std.proofs.lemmas.Bool.{or_parts, and_parts, leb-true, ltb-true, eqb-false}
use Rattle.model_rosters.specs.Folds.{Each}
use Rattle.model_rosters.proofs.EachLemmas.{Each-append}
use Rattle.check_certificates.specs.Sound.{IsWordByte}
use Rattle.text_lines.specs.declared.line.BadByte.{BadByte}
use Rattle.text_lines.specs.Words.{words, is_blank, is_word}
use Rattle.text_lines.specs.Lines.{TextLine, is_line_byte, is_mark, before_comment, line_items, items_from, rest_items, text_items}

abbrev AreFineParts : List (List ℕ) → Type 0
AreFineParts ws = Each (λ (w : List ℕ). Each IsWordByte w) ws

-- some bytes of words
pub record IsFineWord (w : List ℕ) : Type 0 where
  pub some : 1 ≤ length w
  pub bytes : Each IsWordByte w

abbrev pub AreFine : List (List ℕ) → Type 0
AreFine ws = Each IsFineWord ws

-- each word of the line has bytes of words
abbrev pub IsFine : Result TextLine BadByte → Type 0
IsFine (Ok line) = AreFine line.words
IsFine (Err b) = Unit {0}

left_true : (a b : Bool) → (a || b) ≡ true → b ≡ false → a ≡ true
left_true true b e f = refl
left_true false b e f = absurd cc

byte_is : (b : ℕ) → is_line_byte b ≡ true → is_blank b ≡ false → is_mark b ≡ false → IsWordByte b
byte_is b line blank mark =
    let apart = or_parts (eqb b 32) (eqb b 9) blank in
    let print : (leb 32 b && leb b 126) ≡ true = left_true (leb 32 b && leb b 126) (eqb b 9) line apart.1 in
    let parts = and_parts (leb 32 b) (leb b 126) print in
    let low = leb-true 32 b parts.0 in
    let no_space = eqb-false b 32 apart.0 in
    record { first = omega (arith, low, no_space); last = leb-true b 126 parts.1; mark = eqb-false b 35 mark }

-- a byte of a line, which is a byte of a word where it is not blank
abbrev Inks : ℕ → Type 0
Inks b = is_blank b ≡ false → IsWordByte b

-- what stands before the comment has no mark
no_mark : (l : List ℕ) → Each (λ (b : ℕ). is_mark b ≡ false) (before_comment l)
no_mark [] = tt
no_mark (b ∷ bs) = by (is_mark b) refl (no_mark bs)
  where
    by : (t : Bool) → is_mark b ≡ t → Each (λ (c : ℕ). is_mark c ≡ false) (take (position_or_len is_mark bs) bs)
        → Each (λ (c : ℕ). is_mark c ≡ false) (take (cond (not t) (1 + position_or_len is_mark bs) 0) (b ∷ bs))
    by true e h = tt
    by false e h = rw (add_comm 1 (position_or_len is_mark bs), add-one (position_or_len is_mark bs)) (e, h)

all_inks : (bs : List ℕ) → list_all is_line_byte bs ≡ true → Each (λ (b : ℕ). is_mark b ≡ false) bs → Each Inks bs
all_inks [] h m = tt
all_inks (b ∷ bs) h m =
    let t = and_parts (is_line_byte b) (list_all is_line_byte bs) h in
    ((λ blank. byte_is b t.0 blank m.0), all_inks bs t.1 m.1)

onto_fine : (b : ℕ) (ps : List (List ℕ)) → IsWordByte b → AreFineParts ps → AreFineParts (onto_first b ps)
onto_fine b [] i h = ((i, tt), tt)
onto_fine b (p ∷ ps) i h = ((i, h.0), h.1)

split_fine : (bs : List ℕ) → Each Inks bs → AreFineParts (slice_split is_blank bs)
split_fine [] h = (tt, tt)
split_fine (b ∷ bs) h = by (is_blank b) refl (split_fine bs h.1)
  where
    by : (t : Bool) → is_blank b ≡ t → AreFineParts (slice_split is_blank bs) → AreFineParts (cond t ([] ∷ slice_split is_blank bs) (onto_first b (slice_split is_blank bs)))
    by true e r = (tt, r)
    by false e r = onto_fine b (slice_split is_blank bs) (h.0 e) r

filter_fine : (ws : List (List ℕ)) → AreFineParts ws → AreFine (filter is_word ws)
filter_fine [] h = tt
filter_fine (w ∷ ws) h = by (is_word w) refl (filter_fine ws h.1)
  where
    by : (t : Bool) → is_word w ≡ t → AreFine (filter is_word ws) → AreFine (cond t (w ∷ filter is_word ws) (filter is_word ws))
    by true e r = (record { some = let lt = ltb-true 0 (length w) e in omega (arith, lt); bytes = h.0 }, r)
    by false e r = r

words_fine : (bs : List ℕ) → Each Inks bs → AreFine (words bs)
unfolding words
words_fine bs h = filter_fine (slice_split is_blank bs) (split_fine bs h)

line_fine : (k : ℕ) (l : List ℕ) → Each IsFine (line_items k l)
unfolding line_items
line_fine k l = by (list_all is_line_byte (before_comment l)) refl (eqb (length (words (before_comment l))) 0)
  where
    by : (t : Bool) → list_all is_line_byte (before_comment l) ≡ t → (none : Bool)
        → Each IsFine (cond t (cond none [] (Ok (record { number = k; words = words (before_comment l) }) ∷ [])) (Err (record { line = k }) ∷ []))
    by false e none = (tt, tt)
    by true e true = tt
    by true e false = (words_fine (before_comment l) (all_inks (before_comment l) e (no_mark l)), tt)

items_fine : (k : ℕ) (ls : List (List ℕ)) → Each IsFine (items_from k ls)
items_fine k [] = tt
items_fine k (l ∷ ls) = Each-append IsFine (line_items k l) (items_from (k + 1) ls) (line_fine k l) (items_fine (k + 1) ls)

pub text_fine : (text : List ℕ) → Each IsFine (text_items text)
unfolding rest_items
text_fine text = items_fine 1 (lines text)
