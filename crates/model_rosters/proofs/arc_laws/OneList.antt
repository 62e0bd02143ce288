-- A rising list is told by what stands in it.
use Rattle.std.proofs.Common.{◌≡◌, List, [], ◌∷◌, sym, refl, ap, subst, ◌∙◌, inl, inr}
use Rattle.model_rosters.specs.declared.grammar.ArcKey.{ArcKey}
use Rattle.model_rosters.specs.declared.grammar.Grammar.{Grammar}
use Rattle.model_rosters.specs.Folds.{In}
use Rattle.model_rosters.specs.Arcs.{ArcBefore, arc_numbers}
use Rattle.model_rosters.proofs.ComesFirstLemmas.{first_one_way}
use Rattle.model_rosters.proofs.EachLemmas.{Each-at}
use Rattle.model_rosters.specs.arc_laws.Lists.{IsRising, AreArcs}

one_way : (a b : ArcKey) → ArcBefore a b → ArcBefore b a → ⊥
one_way a b h k = first_one_way (arc_numbers a) (arc_numbers b) h k

abbrev Inside : List ArcKey → List ArcKey → Type 0
Inside xs ys = (a : ArcKey) → In a xs → In a ys

-- the first arcs of two such lists are one
same_first : (x y : ArcKey) (xs ys : List ArcKey) → IsRising (x ∷ xs) → IsRising (y ∷ ys) → In x (y ∷ ys) → In y (x ∷ xs) → x ≡ y
same_first x y xs ys hx hy (inl e) k = e
same_first x y xs ys hx hy (inr h) (inl e) = sym e
same_first x y xs ys hx hy (inr h) (inr k) = absurd (one_way x y (Each-at (ArcBefore x) y xs hx.0 k) (Each-at (ArcBefore y) x ys hy.0 h))

-- what follows the first arc of one list follows that of the other
inside_rest : (x : ArcKey) (xs ys : List ArcKey) → IsRising (x ∷ xs) → Inside (x ∷ xs) (x ∷ ys) → Inside xs ys
inside_rest x xs ys h f a k = pick (f a (inr k))
  where
    pick : In a (x ∷ ys) → In a ys
    pick (inl e) = let b = subst (λ (y : ArcKey). ArcBefore x y) e (Each-at (ArcBefore x) a xs h.0 k) in absurd (one_way x x b b)
    pick (inr l) = l

one_list : (xs ys : List ArcKey) → IsRising xs → IsRising ys → Inside xs ys → Inside ys xs → xs ≡ ys
one_list [] [] h k f e = refl
one_list [] (y ∷ ys) h k f e = absurd (e y (inl refl))
one_list (x ∷ xs) [] h k f e = absurd (f x (inl refl))
one_list (x ∷ xs) (y ∷ ys) h k f e =
    let one = same_first x y xs ys h k (f x (inl refl)) (e y (inl refl)) in
    let k' = subst (λ (z : ArcKey). IsRising (z ∷ ys)) (sym one) k in
    let f' = subst (λ (z : ArcKey). Inside (x ∷ xs) (z ∷ ys)) (sym one) f in
    let e' = subst (λ (z : ArcKey). Inside (z ∷ ys) (x ∷ xs)) (sym one) e in
    ap (λ (z : ArcKey). z ∷ xs) one ∙ ap (λ (zs : List ArcKey). y ∷ zs) (one_list xs ys h.1 k.1 (inside_rest x xs ys h f') (inside_rest x ys xs k' e'))

pub one-list : (g : Grammar) (xs ys : List ArcKey) → AreArcs g xs → AreArcs g ys → xs ≡ ys
one-list g xs ys h k = one_list xs ys h.rising k.rising (λ a i. k.whole a (h.sound a i)) (λ a i. h.whole a (k.sound a i))
