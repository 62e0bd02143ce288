-- Elements that are written in eight parts.
use Rattle.std.proofs.Common.{◌≡◌, ℕ, List, [], ◌∷◌, ◌++◌, ◌∙◌, append_assoc}
use Rattle.std.proofs.lemmas.Grind.{flat_map-append}
use Rattle.page_parts.specs.Elements.{Element, written}

pub eight : (x1 x2 x3 x4 x5 x6 x7 x8 : List Element) (o0 o1 o2 o3 o4 o5 o6 o7 o8 : List ℕ)
    → o1 ≡ o0 ++ written x1 → o2 ≡ o1 ++ written x2 → o3 ≡ o2 ++ written x3 → o4 ≡ o3 ++ written x4 → o5 ≡ o4 ++ written x5 → o6 ≡ o5 ++ written x6 → o7 ≡ o6 ++ written x7 → o8 ≡ o7 ++ written x8
    → o8 ≡ o0 ++ written (x1 ++ (x2 ++ (x3 ++ (x4 ++ (x5 ++ (x6 ++ (x7 ++ x8)))))))
eight x1 x2 x3 x4 x5 x6 x7 x8 o0 o1 o2 o3 o4 o5 o6 o7 o8 e1 e2 e3 e4 e5 e6 e7 e8 =
    e8 ∙ rw (e7, e6, e5, e4, e3, e2, e1) (simp (append_assoc, flat_map-append))
