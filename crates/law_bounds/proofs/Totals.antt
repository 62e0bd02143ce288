-- Weighted nodes: where each of the nodes with a property weighs the same on both sides, so do all of
-- them together.
use Rattle.std.proofs.Common.{◌≡◌, ℕ, zero, suc, arith, ◌+◌, ◌*◌, ◌≤◌, Bool, true, false, cond, List, [], ◌∷◌, length, sym, refl, ap, subst, ◌∙◌}
use Rattle.model_rosters.specs.Folds.{sum_n}
use Rattle.model_rosters.specs.arc_laws.OrNodes.{OrNode, same_node}
use Rattle.law_bounds.proofs.Nodes.{same_node-true, same_node-refl}

pub record Weighted : Type 0 where
  pub node : OrNode
  pub weight : ℕ

-- the weight of the nodes with the property
abbrev pub total : (OrNode → Bool) → List Weighted → ℕ
total q xs = sum_n (λ (w : Weighted). w.weight * cond (q w.node) 1 0) xs

abbrev without' : Bool → Weighted → List Weighted → List Weighted
without' true z zs = zs
without' false z zs = z ∷ zs

-- all but those of the node
abbrev without : OrNode → List Weighted → List Weighted
without o [] = []
without o (z ∷ zs) = without' (same_node o z.node) z (without o zs)

module _ (q : OrNode → Bool) where
  none : (ys : List Weighted) → ((o : OrNode) → q o ≡ true → total (same_node o) ys ≡ 0) → total q ys ≡ 0
  none [] h = refl
  none (y ∷ ys) h = by (none ys (λ o e. let k = h o e in omega (arith, k))) (q y.node) refl
    where
      by : total q ys ≡ 0 → (b : Bool) → q y.node ≡ b → total q (y ∷ ys) ≡ 0
      by rest false e = rw e (omega (arith, rest))
      by rest true e = let k = rw (same_node-refl y.node) at (h y.node e) in rw e (omega (arith, rest, k))

  -- the node's weight, and that of the others
  parted : (o : OrNode) → q o ≡ true → (zs : List Weighted) → total q zs ≡ total (same_node o) zs + total q (without o zs)
  parted o e [] = refl
  parted o e (z ∷ zs) = by (parted o e zs) (same_node o z.node) refl
    where
      by : total q zs ≡ total (same_node o) zs + total q (without o zs) → (b : Bool) → same_node o z.node ≡ b → total q (z ∷ zs) ≡ total (same_node o) (z ∷ zs) + total q (without o (z ∷ zs))
      by rest true h = let k : q z.node ≡ true = ap q (sym (same_node-true o z.node h)) ∙ e in rw (h, k) (omega (arith, rest))
      by rest false h = rw h (omega (arith, rest))

-- the node itself weighs nothing among the others
gone : (o : OrNode) (zs : List Weighted) → total (same_node o) (without o zs) ≡ 0
gone o [] = refl
gone o (z ∷ zs) = by (gone o zs) (same_node o z.node) refl
  where
    by : total (same_node o) (without o zs) ≡ 0 → (b : Bool) → same_node o z.node ≡ b → total (same_node o) (without o (z ∷ zs)) ≡ 0
    by rest true h = rw h rest
    by rest false h = rw h (rw h (omega (arith, rest)))

-- another node weighs what it weighed
stays : (o x : OrNode) → same_node o x ≡ false → (zs : List Weighted) → total (same_node o) (without x zs) ≡ total (same_node o) zs
stays o x e [] = refl
stays o x e (z ∷ zs) = by (stays o x e zs) (same_node x z.node) refl
  where
    by : total (same_node o) (without x zs) ≡ total (same_node o) zs → (b : Bool) → same_node x z.node ≡ b → total (same_node o) (without x (z ∷ zs)) ≡ total (same_node o) (z ∷ zs)
    by rest true h = let k : same_node o z.node ≡ false = ap (same_node o) (sym (same_node-true x z.node h)) ∙ e in rw (h, k) (omega (arith, rest))
    by rest false h = rw h (omega (arith, rest))

shorter : (o : OrNode) (zs : List Weighted) → length (without o zs) ≤ length zs
shorter o [] = omega arith
shorter o (z ∷ zs) = by (shorter o zs) (same_node o z.node) refl
  where
    by : length (without o zs) ≤ length zs → (b : Bool) → same_node o z.node ≡ b → length (without o (z ∷ zs)) ≤ length (z ∷ zs)
    by rest true h = rw h (omega (arith, rest))
    by rest false h = rw h (omega (arith, rest))

abbrev Agree : (OrNode → Bool) → List Weighted → List Weighted → Type 0
Agree q xs ys = (o : OrNode) → q o ≡ true → total (same_node o) xs ≡ total (same_node o) ys

module _ (q : OrNode → Bool) where
  others_agree : (x : OrNode) (xs ys : List Weighted) → Agree q xs ys → Agree q (without x xs) (without x ys)
  others_agree x xs ys h o e = by (same_node o x) refl
    where
      by : (b : Bool) → same_node o x ≡ b → total (same_node o) (without x xs) ≡ total (same_node o) (without x ys)
      by true k = let s = same_node-true o x k in subst (λ (y : OrNode). total (same_node o) (without y xs) ≡ total (same_node o) (without y ys)) s (gone o xs ∙ sym (gone o ys))
      by false k = stays o x k xs ∙ h o e ∙ sym (stays o x k ys)

  -- a node without the property weighs nothing beside those that have it
  skip : (x : Weighted) (xs : List Weighted) → q x.node ≡ false → (o : OrNode) → q o ≡ true → total (same_node o) (x ∷ xs) ≡ total (same_node o) xs
  skip x xs e o k = by (same_node o x.node) refl
    where
      by : (b : Bool) → same_node o x.node ≡ b → total (same_node o) (x ∷ xs) ≡ total (same_node o) xs
      by true s = let no : q x.node ≡ true = ap q (sym (same_node-true o x.node s)) ∙ k in let e' = e in cc
      by false s = rw s (omega arith)

  -- a node with the property is weighed apart
  apart : (n : ℕ) (x : Weighted) (xs ys : List Weighted) → ((us vs : List Weighted) → length us ≤ n → Agree q us vs → total q us ≡ total q vs) → length xs ≤ n → Agree q (x ∷ xs) ys → q x.node ≡ true → total q (x ∷ xs) ≡ total q ys
  apart n x xs ys less few h e =
      let short = shorter x.node xs in
      let few' : length (without x.node (x ∷ xs)) ≤ n = rw (same_node-refl x.node) (omega (arith, few, short)) in
      let rest = less (without x.node (x ∷ xs)) (without x.node ys) few' (others_agree x.node (x ∷ xs) ys h) in
      parted q x.node e (x ∷ xs) ∙ ap (λ (m : ℕ). m + total q (without x.node (x ∷ xs))) (h x.node e) ∙ ap (λ (m : ℕ). total (same_node x.node) ys + m) rest
      ∙ sym (parted q x.node e ys)

  same_total : (n : ℕ) (xs ys : List Weighted) → length xs ≤ n → Agree q xs ys → total q xs ≡ total q ys
  same_total n [] ys few h = sym (none q ys (λ o e. sym (h o e)))
  same_total zero (x ∷ xs) ys few h = let no : ⊥ = omega (arith, few) in absurd no
  same_total (suc n) (x ∷ xs) ys few h = by (λ us vs f k. same_total n us vs f k) (q x.node) refl
    where
      by : ((us vs : List Weighted) → length us ≤ n → Agree q us vs → total q us ≡ total q vs) → (b : Bool) → q x.node ≡ b → total q (x ∷ xs) ≡ total q ys
      by less true e = apart n x xs ys less (omega (arith, few)) h e
      by less false e =
          let rest = less xs ys (omega (arith, few)) (λ o k. sym (skip x xs e o k) ∙ h o k) in
          rw e (omega (arith, rest))

  pub equal_totals : (xs ys : List Weighted) → Agree q xs ys → total q xs ≡ total q ys
  equal_totals xs ys h = same_total (length xs) xs ys (omega arith) h
