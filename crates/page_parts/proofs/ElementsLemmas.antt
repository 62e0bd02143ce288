-- Elements that are written one item after another.
use Rattle.std.proofs.Common.{◌≡◌, ℕ, zero, suc, ◌+◌, ◌<◌, List, [], ◌∷◌, ◌++◌, length, take, get_or, sym, ap, ◌∙◌, arith, append_assoc, append-nil, add-one}
use Rattle.std.proofs.lemmas.Grind.{flat_map-append}
use Rattle.std.proofs.lemmas.List.{take_more}
use Rattle.std.specs.List.{flat_map}
use Rattle.page_parts.specs.Elements.{Element, each_from, element_text, places, written}

joined : (es fs : List Element) (o0 o1 o2 : List ℕ) → o1 ≡ o0 ++ written es → o2 ≡ o1 ++ written fs → o2 ≡ o0 ++ written (es ++ fs)
joined es fs o0 o1 o2 e h =
    h ∙ ap (λ (t : List ℕ). t ++ written fs) e ∙ append_assoc o0 (written es) (written fs) ∙ ap (λ (t : List ℕ). o0 ++ t) (sym (flat_map-append element_text es fs))

-- one more item
pub more : {X : Type 0} (f : X → List Element) (xs : List X) (i : ℕ) (d : X) (o0 o1 o2 : List ℕ) → i < length xs → o1 ≡ o0 ++ written (flat_map f (take i xs)) → o2 ≡ o1 ++ written (f (get_or xs i d))
    → o2 ≡ o0 ++ written (flat_map f (take (i + 1) xs))
more f xs i d o0 o1 o2 lt e h =
    let x = get_or xs i d in
    let whole : flat_map f (take i xs ++ x ∷ []) ≡ flat_map f (take i xs) ++ f x = flat_map-append f (take i xs) (x ∷ []) ∙ ap (λ (t : List Element). flat_map f (take i xs) ++ t) (append-nil (f x)) in
    joined (flat_map f (take i xs)) (f x) o0 o1 o2 e h ∙ ap (λ (t : List Element). o0 ++ written t) (sym whole) ∙ ap (λ t. o0 ++ written (flat_map f t)) (sym (take_more xs i d lt))

-- one more place
pub more_places : (f : ℕ → List Element) (n : ℕ) (o0 o1 o2 : List ℕ) → o1 ≡ o0 ++ written (flat_map f (places n)) → o2 ≡ o1 ++ written (f n) → o2 ≡ o0 ++ written (flat_map f (places (n + 1)))
more_places f n o0 o1 o2 e h =
    let whole : flat_map f (places n ++ n ∷ []) ≡ flat_map f (places n) ++ f n = flat_map-append f (places n) (n ∷ []) ∙ ap (λ (t : List Element). flat_map f (places n) ++ t) (append-nil (f n)) in
    rw (add-one n) (joined (flat_map f (places n)) (f n) o0 o1 o2 e h ∙ ap (λ (t : List Element). o0 ++ written t) (sym whole))

each_more : {X : Type 0} (f : ℕ → X → List Element) (k : ℕ) (xs : List X) (i : ℕ) (d : X) → i < length xs → each_from f k (take (suc i) xs) ≡ each_from f k (take i xs) ++ f (k + i) (get_or xs i d)
each_more f k [] i d lt = absurd (omega (arith, lt))
each_more f k (x ∷ xs) zero d lt =
    let same : k ≡ k + 0 = omega arith in
    append-nil (f k x) ∙ ap (λ n. f n x) same
each_more f k (x ∷ xs) (suc i) d lt =
    let step : each_from f (k + 1) (take (suc i) xs) ≡ each_from f (k + 1) (take i xs) ++ f (k + 1 + i) (get_or xs i d) = each_more f (k + 1) xs i d (omega (arith, lt)) in
    let same : k + 1 + i ≡ k + suc i = omega arith in
    ap (λ (t : List Element). f k x ++ t) (step ∙ ap (λ n. each_from f (k + 1) (take i xs) ++ f n (get_or xs i d)) same) ∙ sym (append_assoc (f k x) (each_from f (k + 1) (take i xs)) (f (k + suc i) (get_or xs i d)))

-- one more item with its number
pub more_from : {X : Type 0} (f : ℕ → X → List Element) (xs : List X) (i place : ℕ) (d : X) (o0 o1 o2 : List ℕ) → i < length xs → place ≡ i → o1 ≡ o0 ++ written (each_from f 0 (take i xs)) → o2 ≡ o1 ++ written (f place (get_or xs i d))
    → o2 ≡ o0 ++ written (each_from f 0 (take (i + 1) xs))
more_from f xs i place d o0 o1 o2 lt at e h =
    let same : place ≡ 0 + i = omega (arith, at) in
    joined (each_from f 0 (take i xs)) (f place (get_or xs i d)) o0 o1 o2 e h
    ∙ ap (λ (n : ℕ). o0 ++ written (each_from f 0 (take i xs) ++ f n (get_or xs i d))) same
    ∙ ap (λ (t : List Element). o0 ++ written t) (sym (each_more f 0 xs i d lt))
    ∙ ap (λ n. o0 ++ written (each_from f 0 (take n xs))) (sym (add-one i))
