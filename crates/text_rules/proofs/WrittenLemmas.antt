-- Words with a space before each, and lines of them.
use Rattle.std.proofs.Common.{◌≡◌, ℕ, List, [], ◌∷◌, ◌++◌, sym, ap, ◌∙◌, append_assoc}
use Rattle.text_lines.proofs.WrittenLemmas.{tail_append, tail_cons, spaced_tail, written_append}
use Rattle.text_lines.specs.Written.{written, tail}

joined : (o0 o1 o2 o3 o4 o5 o6 o7 o8 o9 a b c d e f g h i : List ℕ) → o1 ≡ o0 ++ a → o2 ≡ o1 ++ b → o3 ≡ o2 ++ c → o4 ≡ o3 ++ d → o5 ≡ o4 ++ e → o6 ≡ o5 ++ f → o7 ≡ o6 ++ g → o8 ≡ o7 ++ h → o9 ≡ o8 ++ i
    → o9 ≡ o0 ++ ((a ++ (b ++ (c ++ (d ++ (e ++ (f ++ (g ++ h))))))) ++ i)
joined o0 o1 o2 o3 o4 o5 o6 o7 o8 o9 a b c d e f g h i e1 e2 e3 e4 e5 e6 e7 e8 e9 = rw (e9, e8, e7, e6, e5, e4, e3, e2, e1) (simp append_assoc)

-- the pieces of a rule line, joined
line_joined : (o0 o1 o2 o3 o4 o5 o6 o7 o8 o9 a n c m nl : List ℕ) (ss x y z : List (List ℕ)) → o1 ≡ o0 ++ a → o2 ≡ o1 ++ tail (n ∷ []) → o3 ≡ o2 ++ tail (c ∷ []) → o4 ≡ o3 ++ tail (m ∷ []) → o5 ≡ o4 ++ tail ss → o6 ≡ o5 ++ tail x → o7 ≡ o6 ++ tail y → o8 ≡ o7 ++ tail z → o9 ≡ o8 ++ nl
    → o9 ≡ o0 ++ ((a ++ tail (n ∷ c ∷ m ∷ (ss ++ (x ++ (y ++ z))))) ++ nl)
line_joined o0 o1 o2 o3 o4 o5 o6 o7 o8 o9 a n c m nl ss x y z e1 e2 e3 e4 e5 e6 e7 e8 e9 =
    let whole = joined o0 o1 o2 o3 o4 o5 o6 o7 o8 o9 a (tail (n ∷ [])) (tail (c ∷ [])) (tail (m ∷ [])) (tail ss) (tail x) (tail y) (tail z) nl e1 e2 e3 e4 e5 e6 e7 e8 e9 in
    let p1 : tail y ++ tail z ≡ tail (y ++ z) = sym (tail_append y z) in
    let p2 : tail x ++ (tail y ++ tail z) ≡ tail (x ++ (y ++ z)) = ap (λ (t : List ℕ). tail x ++ t) p1 ∙ sym (tail_append x (y ++ z)) in
    let p3 : tail ss ++ (tail x ++ (tail y ++ tail z)) ≡ tail (ss ++ (x ++ (y ++ z))) = ap (λ (t : List ℕ). tail ss ++ t) p2 ∙ sym (tail_append ss (x ++ (y ++ z))) in
    let rest : List (List ℕ) = ss ++ (x ++ (y ++ z)) in
    let p4 : tail (m ∷ []) ++ (tail ss ++ (tail x ++ (tail y ++ tail z))) ≡ tail (m ∷ rest) = ap (λ (t : List ℕ). tail (m ∷ []) ++ t) p3 ∙ tail_cons m rest in
    let p5 : tail (c ∷ []) ++ (tail (m ∷ []) ++ (tail ss ++ (tail x ++ (tail y ++ tail z)))) ≡ tail (c ∷ m ∷ rest) = ap (λ (t : List ℕ). tail (c ∷ []) ++ t) p4 ∙ tail_cons c (m ∷ rest) in
    let p6 : tail (n ∷ []) ++ (tail (c ∷ []) ++ (tail (m ∷ []) ++ (tail ss ++ (tail x ++ (tail y ++ tail z))))) ≡ tail (n ∷ c ∷ m ∷ rest) = ap (λ (t : List ℕ). tail (n ∷ []) ++ t) p5 ∙ tail_cons n (c ∷ m ∷ rest) in
    whole ∙ ap (λ (t : List ℕ). o0 ++ ((a ++ t) ++ nl)) p6

-- the pieces of a rule line make its line
pub rule_joined : (o0 o1 o2 o3 o4 o5 o6 o7 o8 o9 a n c m : List ℕ) (ss x y z : List (List ℕ)) → o1 ≡ o0 ++ a → o2 ≡ o1 ++ tail (n ∷ []) → o3 ≡ o2 ++ tail (c ∷ []) → o4 ≡ o3 ++ tail (m ∷ []) → o5 ≡ o4 ++ tail ss → o6 ≡ o5 ++ tail x → o7 ≡ o6 ++ tail y → o8 ≡ o7 ++ tail z → o9 ≡ o8 ++ 10 ∷ []
    → o9 ≡ o0 ++ written ((a ∷ n ∷ c ∷ m ∷ (ss ++ (x ++ (y ++ z)))) ∷ [])
rule_joined o0 o1 o2 o3 o4 o5 o6 o7 o8 o9 a n c m ss x y z e1 e2 e3 e4 e5 e6 e7 e8 e9 =
    line_joined o0 o1 o2 o3 o4 o5 o6 o7 o8 o9 a n c m (10 ∷ []) ss x y z e1 e2 e3 e4 e5 e6 e7 e8 e9
    ∙ ap (λ (t : List ℕ). o0 ++ (t ++ 10 ∷ [])) (sym (spaced_tail a (n ∷ c ∷ m ∷ (ss ++ (x ++ (y ++ z))))))

-- the lines of a grammar, joined
pub lines_joined : (o0 o1 o2 o3 o4 : List ℕ) (p s : List (List ℕ)) (cs rs : List (List (List ℕ))) → o0 ≡ [] → o1 ≡ o0 ++ written (p ∷ []) → o2 ≡ o1 ++ written cs → o3 ≡ o2 ++ written (s ∷ []) → o4 ≡ o3 ++ written rs → o4 ≡ written (p ∷ (cs ++ s ∷ rs))
lines_joined o0 o1 o2 o3 o4 p s cs rs e0 e1 e2 e3 e4 =
    let back : written (cs ++ s ∷ rs) ≡ written cs ++ written (s ∷ rs) = written_append cs (s ∷ rs) in
    let front : written (p ∷ (cs ++ s ∷ rs)) ≡ written (p ∷ []) ++ written (cs ++ s ∷ rs) = written_append (p ∷ []) (cs ++ s ∷ rs) in
    let start : written (s ∷ rs) ≡ written (s ∷ []) ++ written rs = written_append (s ∷ []) rs in
    let whole : written (p ∷ (cs ++ s ∷ rs)) ≡ written (p ∷ []) ++ (written cs ++ (written (s ∷ []) ++ written rs)) = front ∙ ap (λ (t : List ℕ). written (p ∷ []) ++ t) (back ∙ ap (λ (t : List ℕ). written cs ++ t) start) in
    by (written (p ∷ [])) (written cs) (written (s ∷ [])) (written rs) whole e1 e2 e3 e4
  where
    by : (a b c d : List ℕ) → written (p ∷ (cs ++ s ∷ rs)) ≡ a ++ (b ++ (c ++ d)) → o1 ≡ o0 ++ a → o2 ≡ o1 ++ b → o3 ≡ o2 ++ c → o4 ≡ o3 ++ d → o4 ≡ written (p ∷ (cs ++ s ∷ rs))
    by a b c d w h1 h2 h3 h4 =
        let joined : o4 ≡ a ++ (b ++ (c ++ d)) = rw (h4, h3, h2, h1, e0) (simp append_assoc) in
        joined ∙ sym w
