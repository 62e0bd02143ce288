-- A line that holds a comment alone says nothing.
use Rattle.std.proofs.Common.{◌≡◌, ℕ, suc, ◌+◌, ◌-◌, ◌<◌, Bool, true, false, not, cond, List, [], ◌∷◌, ◌++◌, length, take, drop, refl, sym, ap, ◌∙◌, arith, eqb, length-append}
use Rattle.std.specs.List.{list_all, position_or_len}
use Rattle.std.specs.Str.Lines.{lines, strip_carriage_return}
use Rattle.std.proofs.lemmas.Bool.{and_parts, not-true}
use Rattle.std.proofs.lemmas.List.{take_at, drop_at, drop-drop}
use Rattle.text_lines.specs.Lines.{before_comment, rest_items}
use Rattle.text_lines.proofs.Cuts.{words_nil}
use Rattle.text_lines.proofs.LineCuts.{a_line}
use Rattle.text_lines.proofs.LineItems.{blank_line}

-- the first place that passes lies behind what fails
place_behind : (p : ℕ → Bool) (xs ys : List ℕ) → list_all (λ x. not (p x)) xs ≡ true → position_or_len p (xs ++ ys) ≡ length xs + position_or_len p ys
place_behind p [] ys h = omega arith
place_behind p (x ∷ xs) ys h =
    let t = and_parts (not (p x)) (list_all (λ y. not (p y)) xs) h in
    rw (not-true _ t.0, place_behind p xs ys t.1) (omega arith)

-- nothing stands before the mark at the front
nothing_before : (bs : List ℕ) → before_comment (strip_carriage_return (35 ∷ bs)) ≡ []
nothing_before [] = refl
nothing_before (x ∷ bs) = by _
  where
    by : (t : Bool) → before_comment (cond t (take (length (35 ∷ x ∷ bs) - 1) (35 ∷ x ∷ bs)) (35 ∷ x ∷ bs)) ≡ []
    by true = let e : length (35 ∷ x ∷ bs) - 1 ≡ suc (length bs) = omega arith in rw e refl
    by false = refl

pub comment_line : (k : ℕ) (comment rest : List ℕ) → list_all (λ b. not (eqb b 10)) comment ≡ true → rest_items k (35 ∷ comment ++ 10 ∷ rest) ≡ rest_items (k + 1) rest
comment_line k comment rest one =
    let bs : List ℕ = 35 ∷ comment in
    let text : List ℕ = bs ++ 10 ∷ rest in
    let place : length bs ≡ position_or_len (λ b. eqb b 10) text = sym (place_behind (λ b. eqb b 10) bs (10 ∷ rest) one ∙ omega arith) in
    let within : length bs < length text = omega (arith, length-append bs (10 ∷ rest)) in
    let front : strip_carriage_return bs ≡ strip_carriage_return (take (length bs) text) = ap strip_carriage_return (sym (take_at bs (10 ∷ rest) (length bs) refl)) in
    let back : rest ≡ drop (length bs + 1) text = sym (ap (λ (l : List ℕ). drop 1 l) (drop_at bs (10 ∷ rest) (length bs) refl)) ∙ drop-drop 1 (length bs) text in
    let first : lines text ≡ strip_carriage_return bs ∷ lines rest = a_line text (strip_carriage_return bs) rest (length bs) place within front back in
    blank_line k text (strip_carriage_return bs) rest [] first (sym (nothing_before comment)) refl words_nil
