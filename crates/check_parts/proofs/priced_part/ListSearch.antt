-- A search along a list for an item with a property.
use Rattle.std.proofs.Common.{ℕ, zero, suc, ◌+◌, ◌<◌, ◌≤◌, arith, List, [], ◌∷◌, length, get_or, drop, refl, subst, inl, inr}
use Rattle.std.proofs.lemmas.List.{at_drop_more, drop_all}
use Rattle.model_rosters.specs.Folds.{In}

module _ {A : Type 0} where
  pub In-get_or : (xs : List A) (k : ℕ) (d : A) → k < length xs → In (get_or xs k d) xs
  In-get_or [] k d h = absurd (omega arith)
  In-get_or (x ∷ xs) zero d h = inl refl
  In-get_or (x ∷ xs) (suc k) d h = inr (In-get_or xs k d (omega arith))

  -- what has the property stands from place k on
  abbrev pub StandsFrom : (A → Type 0) → List A → ℕ → Type 0
  StandsFrom P xs k = (x : A) → In x xs → P x → In x (drop k xs)

  pub stands-next : (P : A → Type 0) (xs : List A) (k : ℕ) (d : A) → k < length xs → (P (get_or xs k d) → ⊥) → StandsFrom P xs k → StandsFrom P xs (k + 1)
  stands-next P xs k d l fails h x at p = pick (subst (λ (ys : List A). In x ys) (at_drop_more (λ (ys : List A). ys) xs k d l) (h x at p))
    where
      pick : In x (get_or xs k d ∷ drop (k + 1) xs) → In x (drop (k + 1) xs)
      pick (inl e) = absurd (fails (subst P e p))
      pick (inr r) = r

  pub stands-none : (P : A → Type 0) (xs : List A) (k : ℕ) → length xs ≤ k → StandsFrom P xs k → (x : A) → In x xs → P x → ⊥
  stands-none P xs k l h x at p = subst (λ (ys : List A). In x ys) (drop_all k xs l) (h x at p)
