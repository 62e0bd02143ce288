-- Codes, names and numbers are words that can be written.
use Rattle.std.proofs.Common.{◌≡◌, ℕ, ◌+◌, ◌*◌, ◌%◌, ◌^◌, ◌<◌, ◌≤◌, true, not, ◌&&◌, ◌||◌, List, [], ◌∷◌, length, get_or, refl, ap, arith, inl, inr, eqb, leb, ltb, length-append}
use Rattle.std.specs.List.{list_all}
use Rattle.std.specs.Fmt.{decimal}
use Rattle.std.proofs.lemmas.Bool.{and_from, and_parts, or_cases, leb-true, lt-ltb, le-leb, ne_eqb, eqb-true}
use Rattle.std.proofs.lemmas.Fmt.{decimal_by_steps_wide, length-decimal-le_wide}
use Rattle.std.specs.Str.{bytes_eq}
use Rattle.std.proofs.lemmas.Slice.Eq.{bytes_eq-Decides}
use Rattle.model_rosters.specs.Folds.{Each}
use Rattle.model_rosters.specs.Names.{is_code_byte, is_letter, is_name_byte, is_name, is_window_word}
use Rattle.text_lines.specs.Written.{is_word_byte, is_written, spaced}
use Rattle.text_lines.proofs.ListLemmas.{all_append, all_weaker}

pub word_byte : (b : ℕ) → 33 ≤ b → b ≤ 126 → (b ≡ 35 → ⊥) → is_word_byte b ≡ true
word_byte b low high ne = and_from _ _ (and_from _ _ (le-leb 33 b low) (le-leb b 126 high)) (ap not (ne_eqb b 35 ne))

pub code_byte_fine : (b : ℕ) → is_code_byte b ≡ true → is_word_byte b ≡ true
code_byte_fine b e =
    let a = and_parts (leb 33 b && leb b 126 && not (eqb b 39)) (not (eqb b 35)) e in
    let c = and_parts (leb 33 b && leb b 126) (not (eqb b 39)) a.0 in
    and_from _ _ c.0 a.1

letter_byte : (b : ℕ) → is_letter b ≡ true → is_word_byte b ≡ true
letter_byte b e = elim (or_cases (leb 65 b && leb b 90) (leb 97 b && leb b 122) e) [
  | inl h ↦ let p = and_parts _ _ h in let low : 65 ≤ b = leb-true 65 b p.0 in let high : b ≤ 90 = leb-true b 90 p.1 in word_byte b (omega arith) (omega arith) (λ q. omega (arith, q))
  | inr h ↦ let p = and_parts _ _ h in let low : 97 ≤ b = leb-true 97 b p.0 in let high : b ≤ 122 = leb-true b 122 p.1 in word_byte b (omega arith) (omega arith) (λ q. omega (arith, q))
]

name_byte : (b : ℕ) → is_name_byte b ≡ true → is_word_byte b ≡ true
name_byte b e = elim (or_cases (is_letter b || (leb 48 b && leb b 57)) (eqb b 95) e) [
  | inl h ↦ elim (or_cases (is_letter b) (leb 48 b && leb b 57) h) [
    | inl l ↦ letter_byte b l
    | inr d ↦ let p = and_parts _ _ d in let low : 48 ≤ b = leb-true 48 b p.0 in let high : b ≤ 57 = leb-true b 57 p.1 in word_byte b (omega arith) (omega arith) (λ q. omega (arith, q))
  ]
  | inr h ↦ let same : b ≡ 95 = eqb-true b 95 h in word_byte b (omega arith) (omega arith) (λ q. omega (arith, q))
]

-- a word that can be written, of at most 32 bytes
pub record IsFine (w : List ℕ) : Type 0 where
  pub written : is_written w ≡ true
  pub short : length w ≤ 32

pub name_fine : (w : List ℕ) → is_name w ≡ true → IsFine w
unfolding is_name
name_fine w e =
    let a = and_parts _ (not (is_window_word w)) e in
    let b = and_parts _ (list_all is_name_byte w) a.0 in
    let c = and_parts _ (is_letter (get_or w 0 0)) b.0 in
    let d = and_parts (ltb 0 (length w)) (leb (length w) 32) c.0 in
    record { written = and_from _ _ d.0 (all_weaker is_name_byte is_word_byte name_byte w b.1); short = leb-true (length w) 32 d.1 }

-- ---- numbers

digit_byte : (n : ℕ) → n < 10 → is_word_byte (48 + n) ≡ true
digit_byte n lt = word_byte (48 + n) (omega arith) (omega arith) (λ q. omega (arith, q))

pub record IsWritten (n : ℕ) (ds : List ℕ) : Type 0 where
  pub some : 0 < length ds
  pub bytes : list_all is_word_byte ds ≡ true

pub digits_written : (n : ℕ) → n < 10 ^ 64 → IsWritten n (decimal n)
digits_written = decimal_by_steps_wide IsWritten
    (λ n lt. record { some = omega arith; bytes = and_from _ _ (digit_byte n lt) refl })
    (λ n ds ge h. record {
      some = omega (arith, length-append ds ((48 + n % 10) ∷ []));
      bytes = all_append is_word_byte ds ((48 + n % 10) ∷ []) h.bytes (and_from _ _ (digit_byte (n % 10) (omega arith)) refl);
    })

pub number_written : (n : ℕ) → n < 10 ^ 64 → is_written (decimal n) ≡ true
number_written n lt = let h = digits_written n lt in and_from _ _ (lt-ltb 0 _ h.some) h.bytes

pub number_fine : (n : ℕ) → n ≤ 10000 → IsFine (decimal n)
number_fine n le =
    let few : length (decimal n) ≤ 5 = length-decimal-le_wide 5 n (omega arith) (omega arith) (omega arith) in
    record { written = number_written n (omega arith); short = omega arith }

pub literal : (w : List ℕ) → is_written w ≡ true → leb (length w) 32 ≡ true → IsFine w
literal w e h = record { written = e; short = leb-true (length w) 32 h }

-- ---- lines

pub words_written : (ws : List (List ℕ)) → Each IsFine ws → list_all is_written ws ≡ true
words_written [] h = refl
words_written (w ∷ ws) h = and_from _ _ h.0.written (words_written ws h.1)

pub spaced_short : (ws : List (List ℕ)) → Each IsFine ws → length (spaced ws) ≤ 33 * length ws
spaced_short [] h = omega arith
spaced_short (w ∷ []) h = omega (arith, h.0.short)
spaced_short (w ∷ v ∷ ws) h =
    let more : length (spaced (v ∷ ws)) ≤ 33 * length (v ∷ ws) = spaced_short (v ∷ ws) h.1 in
    omega (arith, h.0.short, more, length-append w (32 ∷ spaced (v ∷ ws)))

pub same_bytes : (w : List ℕ) → bytes_eq w w ≡ true
same_bytes w = (bytes_eq-Decides w w).1 refl

pub the_bytes : (v w : List ℕ) → bytes_eq v w ≡ true → v ≡ w
the_bytes v w h = (bytes_eq-Decides v w).0 h
