-- Lists of causes, one more at a time.
use Rattle.std.proofs.Common.{◌≡◌, ℕ, zero, suc, ◌+◌, ◌<◌, arith, Bool, true, false, Option, None, Some, List, [], ◌∷◌, ◌++◌, length, take, get_or, refl, sym, ap, ◌∙◌, append_assoc, append-nil, add-one}
use Rattle.std.specs.Prelude.{slice_get}
use Rattle.check_values.specs.declared.cause.Cause.{Cause}
use Rattle.check_values.specs.Causes.{gathered, shift_cause, shift_causes}

-- two parts, one behind the other
pub parts : {A : Type 0} (o0 o1 o2 xs ys : List A) → o1 ≡ o0 ++ xs → o2 ≡ o1 ++ ys → o2 ≡ o0 ++ (xs ++ ys)
parts {A} o0 o1 o2 xs ys e h = h ∙ ap (λ (t : List A). t ++ ys) e ∙ append_assoc o0 xs ys

-- three parts of a new list
pub whole : {A : Type 0} (o0 o1 o2 o3 xs ys zs : List A) → o0 ≡ [] → o1 ≡ o0 ++ xs → o2 ≡ o1 ++ ys → o3 ≡ o2 ++ zs → o3 ≡ xs ++ (ys ++ zs)
whole {A} o0 o1 o2 o3 xs ys zs none a b c = parts xs o2 o3 ys zs (b ∙ ap (λ (t : List A). t ++ ys) (a ∙ ap (λ (t : List A). t ++ xs) none)) c

pub four_parts : {A : Type 0} (o0 o1 o2 o3 o4 a b c d : List A) → o1 ≡ o0 ++ a → o2 ≡ o1 ++ b → o3 ≡ o2 ++ c → o4 ≡ o3 ++ d → o4 ≡ o0 ++ (((a ++ b) ++ c) ++ d)
four_parts o0 o1 o2 o3 o4 a b c d p q r s = parts o0 o3 o4 ((a ++ b) ++ c) d (parts o0 o2 o3 (a ++ b) c (parts o0 o1 o2 a b p q) r) s

-- both parts of an empty list are empty
pub nothing : {A : Type 0} (xs ys : List A) → xs ++ ys ≡ [] → (xs ≡ []) × (ys ≡ [])
nothing [] ys e = (refl, e)
nothing (x ∷ xs) ys e = absurd cc

pub no_parts : {A : Type 0} (xs ys : List A) → xs ≡ [] → ys ≡ [] → xs ++ ys ≡ []
no_parts xs ys e f = rw (e, f) refl

shifts_more : (n : ℕ) (os : List (Option ℕ)) (k : ℕ) (o : Option ℕ) → slice_get os k ≡ Some o → shift_causes n (take (suc k) os) ≡ shift_causes n (take k os) ++ shift_cause (n + k) o
shifts_more n [] k o e = absurd cc
shifts_more n (p ∷ ps) zero o e = let same : p ≡ o = cc in
    let none : n ≡ n + 0 = omega arith in
    append-nil (shift_cause n p) ∙ ap (shift_cause n) same ∙ ap (λ (m : ℕ). shift_cause m o) none
shifts_more n (p ∷ ps) (suc k) o e =
    let same : n + 1 + k ≡ n + suc k = omega arith in
    ap (λ (t : List Cause). shift_cause n p ++ t) (shifts_more (n + 1) ps k o e)
    ∙ sym (append_assoc (shift_cause n p) (shift_causes (n + 1) (take k ps)) (shift_cause (n + 1 + k) o))
    ∙ ap (λ (m : ℕ). (shift_cause n p ++ shift_causes (n + 1) (take k ps)) ++ shift_cause m o) same

-- the causes of one more shift
pub shifts-next : (os : List (Option ℕ)) (k number : ℕ) (o : Option ℕ) (o0 o1 o2 : List Cause) → slice_get os k ≡ Some o → number ≡ k + 1 → o1 ≡ o0 ++ shift_causes 1 (take k os)
    → o2 ≡ o1 ++ shift_cause number o → o2 ≡ o0 ++ shift_causes 1 (take (k + 1) os)
shifts-next os k number o o0 o1 o2 here n e h =
    let same : number ≡ 1 + k = omega (arith, n) in
    parts o0 o1 o2 (shift_causes 1 (take k os)) (shift_cause (1 + k) o) e (h ∙ ap (λ (m : ℕ). o1 ++ shift_cause m o) same)
    ∙ ap (λ (t : List Cause). o0 ++ t) (sym (shifts_more 1 os k o here) ∙ ap (λ (m : ℕ). shift_causes 1 (take m os)) (sym (add-one k)))

module _ {A : Type 0} (f : A → List Cause) where
  gathered_more : (xs : List A) (k : ℕ) (x : A) → slice_get xs k ≡ Some x → gathered f (take (suc k) xs) ≡ gathered f (take k xs) ++ f x
  gathered_more [] k x e = absurd cc
  gathered_more (y ∷ ys) zero x e = let same : y ≡ x = cc in append-nil (f y) ∙ ap f same
  gathered_more (y ∷ ys) (suc k) x e =
      ap (λ (t : List Cause). f y ++ t) (gathered_more ys k x e) ∙ sym (append_assoc (f y) (gathered f (take k ys)) (f x))

  -- the causes of one more item
  pub gathered-next : (xs : List A) (k : ℕ) (x : A) (o0 o1 o2 : List Cause) → slice_get xs k ≡ Some x → o1 ≡ o0 ++ gathered f (take k xs) → o2 ≡ o1 ++ f x → o2 ≡ o0 ++ gathered f (take (k + 1) xs)
  gathered-next xs k x o0 o1 o2 here e h =
      parts o0 o1 o2 (gathered f (take k xs)) (f x) e h
      ∙ ap (λ (t : List Cause). o0 ++ t) (sym (gathered_more xs k x here) ∙ ap (λ (m : ℕ). gathered f (take m xs)) (sym (add-one k)))
