-- What the first line gives, and what the rest gives.
use Rattle.std.proofs.Common.{◌≡◌, ℕ, ◌+◌, true, false, List, [], ◌∷◌, ◌++◌, length, Ok, Err, refl, ap, arith, eqb}
use Rattle.std.specs.Str.Lines.{lines}
use Rattle.std.proofs.lemmas.Bool.{ne_eqb}
use Rattle.text_lines.specs.Words.{words}
use Rattle.text_lines.specs.Lines.{before_comment}
use Rattle.page_labels.specs.TextLines.{is_body, line_items, items_from, rest_items}

pub rest_items_first : (k : ℕ) (text line rest : List ℕ) → lines text ≡ line ∷ lines rest → rest_items k text ≡ line_items k line ++ rest_items (k + 1) rest
unfolding rest_items
rest_items_first k text line rest e = ap (items_from k) e

pub rest_items_none : (k : ℕ) (text : List ℕ) → lines text ≡ [] → rest_items k text ≡ []
unfolding rest_items
rest_items_none k text e = ap (items_from k) e

pub bad_line : (k : ℕ) (text line rest body : List ℕ) → lines text ≡ line ∷ lines rest → body ≡ before_comment line → is_body body ≡ false → rest_items k text ≡ Err (record { line = k }) ∷ rest_items (k + 1) rest
unfolding line_items
bad_line k text line rest body e b bad =
    let bad' : is_body (before_comment line) ≡ false = rw (← b) bad in
    rw (rest_items_first k text line rest e, bad') refl

pub blank_line : (k : ℕ) (text line rest body : List ℕ) → lines text ≡ line ∷ lines rest → body ≡ before_comment line → is_body body ≡ true → words body ≡ [] → rest_items k text ≡ rest_items (k + 1) rest
unfolding line_items
blank_line k text line rest body e b good none =
    let good' : is_body (before_comment line) ≡ true = rw (← b) good in
    let none' : words (before_comment line) ≡ [] = rw (← b) none in
    rw (rest_items_first k text line rest e, good', none') refl

pub word_line : (k : ℕ) (text line rest body w : List ℕ) (ws : List (List ℕ)) → lines text ≡ line ∷ lines rest → body ≡ before_comment line → is_body body ≡ true → words body ≡ w ∷ ws → rest_items k text ≡ Ok (record { number = k; words = words body }) ∷ rest_items (k + 1) rest
unfolding line_items
word_line k text line rest body w ws e b good some =
    let good' : is_body (before_comment line) ≡ true = rw (← b) good in
    let some' : words (before_comment line) ≡ w ∷ ws = rw (← b) some in
    let len : eqb (length (w ∷ ws)) 0 ≡ false = ne_eqb (length (w ∷ ws)) 0 (λ z. omega (arith, z)) in
    rw (rest_items_first k text line rest e, good', b, some', len) refl
