-- Lists to which only what is new is appended.
use Rattle.std.proofs.Common.{◌≡◌, ◌⊎◌, inl, inr, ℕ, zero, suc, ◌<◌, ◌≤◌, ◌+◌, Bool, true, false, ◌||◌, cond, List, [], ◌∷◌, ◌++◌, Option, None, Some, length, slice_get, map, take, get_or, arith, refl, sym, ap, ◌∙◌, subst}
use Rattle.std.proofs.lemmas.List.{append_assoc, append-nil}
use Rattle.model_rosters.specs.Folds.{In}
use Rattle.plan_laws.proofs.ItemByItem.{IsItemByItem, one_more}
use Rattle.plan_names.specs.Gathered.{has, with_new, with_all, place}

module _ {A : Type 0} (same : A → A → Bool) where
  pub all_append : (xs ys zs : List A) → with_all same xs (ys ++ zs) ≡ with_all same (with_all same xs ys) zs
  all_append xs [] zs = refl
  all_append xs (y ∷ ys) zs = all_append (with_new same xs y) ys zs

  -- what is appended
  pub new_behind : (xs : List A) (y : A) → (zs : List A) × (with_new same xs y ≡ xs ++ zs)
  new_behind xs y = go (has same y xs)
    where
      go : (v : Bool) → (zs : List A) × (cond v xs (xs ++ y ∷ []) ≡ xs ++ zs)
      go true = ([], sym (append-nil xs))
      go false = (y ∷ [], refl)

  pub all_behind : (xs ys : List A) → (zs : List A) × (with_all same xs ys ≡ xs ++ zs)
  all_behind xs [] = ([], sym (append-nil xs))
  all_behind xs (y ∷ ys) =
      let one = new_behind xs y in
      let more = all_behind (with_new same xs y) ys in
      (one.0 ++ more.0, more.1 ∙ ap (λ ws. ws ++ more.0) one.1 ∙ append_assoc xs one.0 more.0)

  -- what stands behind others
  in_left : (x : A) (xs ys : List A) → In x xs → In x (xs ++ ys)
  in_left x [] ys at = absurd at
  in_left x (y ∷ xs) ys (inl e) = inl e
  in_left x (y ∷ xs) ys (inr at) = inr (in_left x xs ys at)

  in_right : (x : A) (xs ys : List A) → In x ys → In x (xs ++ ys)
  in_right x [] ys at = at
  in_right x (y ∷ xs) ys at = inr (in_right x xs ys at)

  in_one : (x : A) (xs ys : List A) → In x (xs ++ ys) → In x xs ⊎ In x ys
  in_one x [] ys at = inr at
  in_one x (y ∷ xs) ys (inl e) = inl (inl e)
  in_one x (y ∷ xs) ys (inr at) = go (in_one x xs ys at)
    where
      go : In x xs ⊎ In x ys → In x (y ∷ xs) ⊎ In x ys
      go (inl h) = inl (inr h)
      go (inr h) = inr h

  module _ (is : (x y : A) → same x y ≡ true → x ≡ y) (own : (x : A) → same x x ≡ true) where
    or_parts : (a b : Bool) → (a || b) ≡ true → (a ≡ true) ⊎ (b ≡ true)
    or_parts true b h = inl refl
    or_parts false b h = inr h

    or_left : (a b : Bool) → a ≡ true → (a || b) ≡ true
    or_left true b e = refl
    or_left false b e = absurd (never e)
      where
        never : false ≡ true → ⊥
        never e = cc

    or_right : (a b : Bool) → b ≡ true → (a || b) ≡ true
    or_right true b e = refl
    or_right false b e = e

    pub has_in : (x : A) (xs : List A) → has same x xs ≡ true → In x xs
    has_in x [] h = absurd (never h)
      where
        never : false ≡ true → ⊥
        never e = cc
    has_in x (y ∷ ys) h = go (or_parts (same x y) (has same x ys) h) (has_in x ys)
      where
        go : (same x y ≡ true) ⊎ (has same x ys ≡ true) → (has same x ys ≡ true → In x ys) → In x (y ∷ ys)
        go (inl e) more = inl (is x y e)
        go (inr e) more = inr (more e)

    pub in_has : (x : A) (xs : List A) → In x xs → has same x xs ≡ true
    in_has x [] at = absurd at
    in_has x (y ∷ ys) (inl e) = or_left (same x y) (has same x ys) (subst (λ z. same x z ≡ true) e (own x))
    in_has x (y ∷ ys) (inr at) = or_right (same x y) (has same x ys) (in_has x ys at)

    new_in : (xs : List A) (y : A) → In y (with_new same xs y)
    new_in xs y = go (has same y xs) refl
      where
        go : (v : Bool) → has same y xs ≡ v → In y (cond v xs (xs ++ y ∷ []))
        go true e = has_in y xs e
        go false e = in_right y xs (y ∷ []) (inl refl)

    kept_in : (xs : List A) (y x : A) → In x xs → In x (with_new same xs y)
    kept_in xs y x at = let b = new_behind xs y in subst (λ ws. In x ws) (sym b.1) (in_left x xs b.0 at)

    pub all_kept : (xs ys : List A) (x : A) → In x xs → In x (with_all same xs ys)
    all_kept xs [] x at = at
    all_kept xs (y ∷ ys) x at = all_kept (with_new same xs y) ys x (kept_in xs y x at)

    -- each of these is there
    pub all_in : (xs ys : List A) (x : A) → In x ys → In x (with_all same xs ys)
    all_in xs [] x at = absurd at
    all_in xs (y ∷ ys) x (inl e) = all_kept (with_new same xs y) ys x (subst (λ z. In z (with_new same xs y)) (sym e) (new_in xs y))
    all_in xs (y ∷ ys) x (inr at) = all_in (with_new same xs y) ys x at

    -- nothing else is
    pub none_else : (xs ys : List A) (x : A) → In x (with_all same xs ys) → In x xs ⊎ In x ys
    none_else xs [] x at = inl at
    none_else xs (y ∷ ys) x at = go (none_else (with_new same xs y) ys x at)
      where
        old : In x (with_new same xs y) → In x xs ⊎ In x (y ∷ ys)
        old = case (has same y xs)
          where
            case : (v : Bool) → In x (cond v xs (xs ++ y ∷ [])) → In x xs ⊎ In x (y ∷ ys)
            case true at = inl at
            case false at = last (in_one x xs (y ∷ []) at)
              where
                last : In x xs ⊎ In x (y ∷ []) → In x xs ⊎ In x (y ∷ ys)
                last (inl h) = inl h
                last (inr (inl e)) = inr (inl e)
                last (inr (inr h)) = absurd h

        go : In x (with_new same xs y) ⊎ In x ys → In x xs ⊎ In x (y ∷ ys)
        go (inl h) = old h
        go (inr h) = inr (inr h)

    -- what is there stands at its place, and so things at one place are one
    pub at_place : (x : A) (xs : List A) → In x xs → slice_get xs (place same x xs) ≡ Some x
    at_place x [] at = absurd at
    at_place x (y ∷ ys) at = go (same x y) refl at (at_place x ys)
      where
        go : (v : Bool) → same x y ≡ v → In x (y ∷ ys) → (In x ys → slice_get ys (place same x ys) ≡ Some x)
            → slice_get (y ∷ ys) (cond v 0 (suc (place same x ys))) ≡ Some x
        go true e at more = ap Some (sym (is x y e))
        go false e (inl eq) more = absurd (never (sym e ∙ subst (λ z. same x z ≡ true) eq (own x)))
          where
            never : false ≡ true → ⊥
            never e = cc
        go false e (inr at) more = more at

    pub one_place : (x y : A) (xs : List A) → In x xs → In y xs → place same x xs ≡ place same y xs → x ≡ y
    one_place x y xs at_x at_y e = some (sym (at_place x xs at_x) ∙ (ap (λ n. slice_get xs n) e ∙ at_place y xs at_y))
      where
        some : ◌≡◌ {A = Option A} (Some x) (Some y) → x ≡ y
        some e = cc

-- the step of a loop over things of which each gives some
pub all_step : {A B : Type 0} (same : A → A → Bool) (zs : List A) (g : List B → List A) → IsItemByItem g → (xs : List B) (i : ℕ) (x : B) (old new : List A)
    → i < length xs → x ≡ get_or xs i x → old ≡ with_all same zs (g (take i xs)) → new ≡ with_all same old (g (x ∷ [])) → new ≡ with_all same zs (g (take (i + 1) xs))
all_step same zs g by xs i x old new within at kept is =
    is ∙ ap (λ os. with_all same os (g (x ∷ []))) kept ∙ sym (all_append same zs (g (take i xs)) (g (x ∷ [])))
    ∙ ap (with_all same zs) (sym (one_more g by xs i x within at))

pub map_one : {A B : Type 0} (f : A → B) → IsItemByItem (map f)
map_one f = record { none = refl; more = λ x xs. refl }
