-- Words with a space before each, and lines of them, joined.
use Rattle.std.proofs.Common.{◌≡◌, ℕ, zero, suc, ◌+◌, ◌<◌, List, [], ◌∷◌, ◌++◌, length, take, get_or, map, Result, Ok, refl, sym, ap, ◌∙◌, arith, append_assoc, append-nil, add-one}
use Rattle.text_lines.specs.declared.line.BadByte.{BadByte}
use Rattle.text_lines.specs.Lines.{TextLine}
use Rattle.text_lines.specs.Steps.{each}
use Rattle.text_lines.specs.Written.{spaced, written, numbered, tail}
use Rattle.text_lines.proofs.StepsLemmas.{each-append}

pub tail_append : (xs ys : List (List ℕ)) → tail (xs ++ ys) ≡ tail xs ++ tail ys
tail_append [] ys = refl
tail_append (x ∷ xs) ys = ap (λ (t : List ℕ). 32 ∷ (x ++ t)) (tail_append xs ys) ∙ ap (λ (t : List ℕ). 32 ∷ t) (sym (append_assoc x (tail xs) (tail ys)))

pub tail_more : {X : Type 0} (f : X → List ℕ) (xs : List X) (i : ℕ) (d : X) → i < length xs → tail (map f (take (suc i) xs)) ≡ tail (map f (take i xs)) ++ tail (f (get_or xs i d) ∷ [])
tail_more f [] i d lt = absurd (omega (arith, lt))
tail_more f (x ∷ xs) zero d lt = refl
tail_more f (x ∷ xs) (suc i) d lt =
    ap (λ (t : List ℕ). 32 ∷ (f x ++ t)) (tail_more f xs i d (omega (arith, lt)))
    ∙ ap (λ (t : List ℕ). 32 ∷ t) (sym (append_assoc (f x) (tail (map f (take i xs))) (tail (f (get_or xs i d) ∷ []))))

-- one more word
pub one_more : {X : Type 0} (f : X → List ℕ) (xs : List X) (i : ℕ) (d : X) (o0 o1 o2 : List ℕ) → i < length xs → o1 ≡ o0 ++ tail (map f (take i xs)) → o2 ≡ o1 ++ tail (f (get_or xs i d) ∷ []) → o2 ≡ o0 ++ tail (map f (take (i + 1) xs))
one_more f xs i d o0 o1 o2 lt e h = rw (h, e, add-one i, tail_more f xs i d lt) (append_assoc o0 (tail (map f (take i xs))) (tail (f (get_or xs i d) ∷ [])))

pub spaced_tail : (w : List ℕ) (ws : List (List ℕ)) → spaced (w ∷ ws) ≡ w ++ tail ws
spaced_tail w [] = sym (append-nil w)
spaced_tail w (v ∷ ws) = ap (λ (t : List ℕ). w ++ (32 ∷ t)) (spaced_tail v ws)

pub tail_cons : (w : List ℕ) (ws : List (List ℕ)) → tail (w ∷ []) ++ tail ws ≡ tail (w ∷ ws)
tail_cons w ws = sym (tail_append (w ∷ []) ws)

-- a line of a word, of words, and of more words
pub line_joined : (o0 o1 o2 o3 o4 w : List ℕ) (ws vs : List (List ℕ)) → o1 ≡ o0 ++ w → o2 ≡ o1 ++ tail ws → o3 ≡ o2 ++ tail vs → o4 ≡ o3 ++ 10 ∷ [] → o4 ≡ o0 ++ written ((w ∷ (ws ++ vs)) ∷ [])
line_joined o0 o1 o2 o3 o4 w ws vs e1 e2 e3 e4 =
    let flat : o4 ≡ o0 ++ ((w ++ (tail ws ++ tail vs)) ++ 10 ∷ []) = rw (e4, e3, e2, e1) (simp append_assoc) in
    flat ∙ ap (λ (t : List ℕ). o0 ++ ((w ++ t) ++ 10 ∷ [])) (sym (tail_append ws vs)) ∙ ap (λ (t : List ℕ). o0 ++ (t ++ 10 ∷ [])) (sym (spaced_tail w (ws ++ vs)))

pub written_append : (ls ks : List (List (List ℕ))) → written (ls ++ ks) ≡ written ls ++ written ks
written_append [] ks = refl
written_append (l ∷ ls) ks = ap (λ (t : List ℕ). spaced l ++ (10 ∷ t)) (written_append ls ks) ∙ sym (append_assoc (spaced l) (10 ∷ written ls) (written ks))

module _ {X : Type 0} (f : X → List (List ℕ)) where
  written_more : (xs : List X) (i : ℕ) (d : X) → i < length xs → written (map f (take (suc i) xs)) ≡ written (map f (take i xs)) ++ written (f (get_or xs i d) ∷ [])
  written_more [] i d lt = absurd (omega (arith, lt))
  written_more (x ∷ xs) zero d lt = refl
  written_more (x ∷ xs) (suc i) d lt =
      ap (λ (t : List ℕ). spaced (f x) ++ (10 ∷ t)) (written_more xs i d (omega (arith, lt)))
      ∙ sym (append_assoc (spaced (f x)) (10 ∷ written (map f (take i xs))) (written (f (get_or xs i d) ∷ [])))

  -- one more line
  pub line_more : (xs : List X) (i : ℕ) (d : X) (o0 o1 o2 : List ℕ) → i < length xs → o1 ≡ o0 ++ written (map f (take i xs)) → o2 ≡ o1 ++ written (f (get_or xs i d) ∷ []) → o2 ≡ o0 ++ written (map f (take (i + 1) xs))
  line_more xs i d o0 o1 o2 lt e h = rw (h, e, add-one i, written_more xs i d lt) (append_assoc o0 (written (map f (take i xs))) (written (f (get_or xs i d) ∷ [])))

pub three_words : (o0 o1 o2 o3 a b c : List ℕ) → o1 ≡ o0 ++ tail (a ∷ []) → o2 ≡ o1 ++ tail (b ∷ []) → o3 ≡ o2 ++ tail (c ∷ []) → o3 ≡ o0 ++ tail (a ∷ b ∷ c ∷ [])
three_words o0 o1 o2 o3 a b c e1 e2 e3 = rw (e3, e2, e1) (simp (append_assoc, append-nil))

pub text_joined : (o0 o1 o2 : List ℕ) (ls ks : List (List (List ℕ))) → o0 ≡ [] → o1 ≡ o0 ++ written ls → o2 ≡ o1 ++ written ks → o2 ≡ written (ls ++ ks)
text_joined o0 o1 o2 ls ks e0 e1 e2 =
    e2 ∙ ap (λ (t : List ℕ). t ++ written ks) (e1 ∙ ap (λ (t : List ℕ). t ++ written ls) e0) ∙ sym (written_append ls ks)

-- a line and the lines behind it
pub line_then : (o0 o1 o2 : List ℕ) (l : List (List ℕ)) (ls : List (List (List ℕ))) → o1 ≡ o0 ++ written (l ∷ []) → o2 ≡ o1 ++ written ls → o2 ≡ o0 ++ written (l ∷ ls)
line_then o0 o1 o2 l ls e h = h ∙ ap (λ (t : List ℕ). t ++ written ls) e ∙ append_assoc o0 (written (l ∷ [])) (written ls) ∙ ap (λ (t : List ℕ). o0 ++ t) (sym (written_append (l ∷ []) ls))

pub lines_then : (o0 o1 o2 : List ℕ) (ks ls : List (List (List ℕ))) → o1 ≡ o0 ++ written ks → o2 ≡ o1 ++ written ls → o2 ≡ o0 ++ written (ks ++ ls)
lines_then o0 o1 o2 ks ls e h = h ∙ ap (λ (t : List ℕ). t ++ written ls) e ∙ append_assoc o0 (written ks) (written ls) ∙ ap (λ (t : List ℕ). o0 ++ t) (sym (written_append ks ls))

pub numbered-append : (k : ℕ) (ls ms : List (List (List ℕ))) → numbered k (ls ++ ms) ≡ numbered k ls ++ numbered (k + length ls) ms
numbered-append k [] ms = ap (λ (n : ℕ). numbered n ms) (omega arith)
numbered-append k (l ∷ ls) ms =
    let line : Result TextLine BadByte = Ok (record { number = k; words = l }) in
    ap (λ (is : List (Result TextLine BadByte)). line ∷ is) (numbered-append (k + 1) ls ms ∙ ap (λ (n : ℕ). numbered (k + 1) ls ++ numbered n ms) (omega arith))

-- what is read of two parts, one after the other
pub parts_again : {E S : Type 0} (f : S → Result TextLine BadByte → Result S E) (s t : S) (r : Result S E) (k : ℕ) (ls ms : List (List (List ℕ)))
    → each f s (numbered k ls) ≡ Ok t → each f t (numbered (k + length ls) ms) ≡ r → each f s (numbered k (ls ++ ms)) ≡ r
parts_again f s t r k ls ms e h =
    ap (each f s) (numbered-append k ls ms) ∙ each-append f s (numbered k ls) (numbered (k + length ls) ms) ∙ (rw e h)
