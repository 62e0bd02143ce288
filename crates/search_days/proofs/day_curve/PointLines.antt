-- The line of a point, joined.
use Rattle.std.proofs.Common.{◌≡◌, ℕ, List, [], ◌∷◌, ◌++◌, refl, sym, ap, ◌∙◌, append_assoc}
use Rattle.text_lines.specs.Written.{written, tail}
use Rattle.text_lines.proofs.WrittenLemmas.{tail_append, line_joined}

-- words, and more words
words-then : (o0 o1 o2 : List ℕ) (ws vs : List (List ℕ)) → o1 ≡ o0 ++ tail ws → o2 ≡ o1 ++ tail vs → o2 ≡ o0 ++ tail (ws ++ vs)
words-then o0 o1 o2 ws vs e f = rw (f, e) (append_assoc o0 (tail ws) (tail vs) ∙ ap (λ (t : List ℕ). o0 ++ t) (sym (tail_append ws vs)))

-- a word, and words six times
pub line-words : (o0 o1 o2 o3 o4 o5 o6 o7 w : List ℕ) (t a b c d e : List (List ℕ)) → o1 ≡ o0 ++ w ++ tail t → o2 ≡ o1 ++ tail a → o3 ≡ o2 ++ tail b → o4 ≡ o3 ++ tail c → o5 ≡ o4 ++ tail d → o6 ≡ o5 ++ tail e
    → o7 ≡ o6 ++ 10 ∷ [] → o7 ≡ o0 ++ written ((w ∷ (t ++ (a ++ (b ++ (c ++ (d ++ e)))))) ∷ [])
line-words o0 o1 o2 o3 o4 o5 o6 o7 w t a b c d e p q r s u v x =
    line_joined o0 (o0 ++ w) o1 o6 o7 w t (a ++ (b ++ (c ++ (d ++ e)))) refl p
    (words-then o1 o2 o6 a (b ++ (c ++ (d ++ e))) q (words-then o2 o3 o6 b (c ++ (d ++ e)) r (words-then o3 o4 o6 c (d ++ e) s (words-then o4 o5 o6 d e u v)))) x
