-- Functions of lists that go item by item, in a loop over the list.
use Rattle.std.proofs.Common.{◌≡◌, ℕ, ◌+◌, ◌<◌, List, [], ◌∷◌, ◌++◌, length, take, get_or, sym, ap, ◌∙◌}
use Rattle.std.proofs.lemmas.List.{append_assoc, get_or_default, take_more}

pub record IsItemByItem {A B : Type 0} (F : List A → List B) : Type 0 where
  pub none : F [] ≡ []
  pub more : (x : A) (xs : List A) → F (x ∷ xs) ≡ F (x ∷ []) ++ F xs

pub joined : {A B : Type 0} (F : List A → List B) → IsItemByItem F → (xs ys : List A) → F (xs ++ ys) ≡ F xs ++ F ys
joined F by [] ys = sym (ap (λ zs. zs ++ F ys) by.none)
joined F by (x ∷ xs) ys =
    by.more x (xs ++ ys) ∙ ap (λ zs. F (x ∷ []) ++ zs) (joined F by xs ys)
    ∙ sym (append_assoc (F (x ∷ [])) (F xs) (F ys)) ∙ ap (λ zs. zs ++ F ys) (sym (by.more x xs))

-- one item more of those that were gone over
pub one_more : {A B : Type 0} (F : List A → List B) → IsItemByItem F → (xs : List A) (i : ℕ) (x : A) → i < length xs
    → x ≡ get_or xs i x → F (take (i + 1) xs) ≡ F (take i xs) ++ F (x ∷ [])
one_more F by xs i x within at =
    ap F (take_more xs i x within ∙ ap (λ y. take i xs ++ y ∷ []) (sym at)) ∙ joined F by (take i xs) (x ∷ [])

-- the step of a loop that appends what each item gives
pub step : {A B : Type 0} (F : List A → List B) → IsItemByItem F → (xs : List A) (i : ℕ) (x : A) (before old new : List B)
    → i < length xs → x ≡ get_or xs i x → old ≡ before ++ F (take i xs) → new ≡ old ++ F (x ∷ [])
    → new ≡ before ++ F (take (i + 1) xs)
step F by xs i x before old new within at kept is =
    is ∙ ap (λ zs. zs ++ F (x ∷ [])) kept ∙ append_assoc before (F (take i xs)) (F (x ∷ []))
    ∙ ap (λ zs. before ++ zs) (sym (one_more F by xs i x within at))

pub step_from_none : {A B : Type 0} (F : List A → List B) → IsItemByItem F → (xs : List A) (i : ℕ) (x : A) (old new : List B)
    → i < length xs → x ≡ get_or xs i x → old ≡ F (take i xs) → new ≡ old ++ F (x ∷ []) → new ≡ F (take (i + 1) xs)
step_from_none F by xs i x old new within at kept is =
    is ∙ ap (λ zs. zs ++ F (x ∷ [])) kept ∙ sym (one_more F by xs i x within at)

-- ... where the item is read at its place
pub step_read : {A B : Type 0} (F : List A → List B) → IsItemByItem F → (xs : List A) (i : ℕ) (d : A) (old new : List B)
    → i < length xs → old ≡ F (take i xs) → new ≡ old ++ F (get_or xs i d ∷ []) → new ≡ F (take (i + 1) xs)
step_read F by xs i d old new within kept is =
    step_from_none F by xs i (get_or xs i d) old new within (get_or_default xs i d (get_or xs i d) within) kept is
