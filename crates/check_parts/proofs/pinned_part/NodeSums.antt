-- Sums at the places of nodes, and which nodes some arcs make or use.
use Rattle.std.proofs.Common.{◌≡◌, ℕ, arith, ◌+◌, ◌*◌, ◌≤◌, Bool, true, false, cond, List, [], ◌∷◌, refl, ap, ◌∙◌, ◌⊎◌, inl, inr}
use Rattle.model_rosters.specs.declared.grammar.ArcKey.{ArcKey}
use Rattle.model_rosters.specs.declared.grammar.Grammar.{Grammar}
use Rattle.model_rosters.specs.Folds.{sum_n, count, Each, In}
use Rattle.model_rosters.specs.arc_laws.OrNodes.{OrNode, made, used, same_node}
use Rattle.model_rosters.specs.arc_laws.Balance.{made_sum, used_sum}
use Rattle.check_parts.specs.pinned_part.Places.{node_place, IsPlaced}
use Rattle.check_parts.specs.pinned_part.Net.{made_in, used_in, at}
use Rattle.check_parts.proofs.pinned_part.PlacesLemmas.{place-tells}

-- the nodes that an arc makes and uses have places
abbrev pub AreNodesPlaced : Grammar → ArcKey → Type 0
AreNodesPlaced g a = IsPlaced g (made g a) × Each (IsPlaced g) (used g a)

-- an item's number is no more than the sum
pub sum_n-in : {A : Type 0} (f : A → ℕ) (x : A) (xs : List A) → In x xs → f x ≤ sum_n f xs
sum_n-in f x [] h = absurd h
sum_n-in f x (y ∷ ys) (inl e) = let k = ap f e in omega arith
sum_n-in f x (y ∷ ys) (inr h) = let k = sum_n-in f x ys h in omega arith

module _ (g : Grammar) where
  -- tests that agree on nodes with places
  abbrev pub Agree : (OrNode → Bool) → (OrNode → Bool) → Type 0
  Agree t u = (q : OrNode) → IsPlaced g q → t q ≡ u q

  same_count : (t u : OrNode → Bool) → Agree t u → (os : List OrNode) → Each (IsPlaced g) os → count t os ≡ count u os
  same_count t u f [] h = refl
  same_count t u f (o ∷ os) h =
      let e = ap (λ (b : Bool). cond b 1 0 + count t os) (f o h.0) in
      e ∙ ap (λ (n : ℕ). cond (u o) 1 0 + n) (same_count t u f os h.1)

  -- a node that passes the test, or none
  found : (t : OrNode → Bool) (os : List OrNode) → Each (IsPlaced g) os → ((o : OrNode) × IsPlaced g o × (t o ≡ true)) ⊎ (count t os ≡ 0)
  found t [] h = inr refl
  found t (o ∷ os) h = by (t o) refl (found t os h.1)
    where
      by : (b : Bool) → t o ≡ b → ((o : OrNode) × IsPlaced g o × (t o ≡ true)) ⊎ (count t os ≡ 0) → ((o : OrNode) × IsPlaced g o × (t o ≡ true)) ⊎ (count t (o ∷ os) ≡ 0)
      by true e rest = inl (o, h.0, e)
      by false e (inl k) = inl k
      by false e (inr z) = let a = ap (λ (b : Bool). cond {A = ℕ} b 1 0) e in inr (omega (arith, a, z))

  module _ (value : ArcKey → ℕ) where
    pub same-made : (t u : OrNode → Bool) → Agree t u → (listed : List ArcKey) → Each (AreNodesPlaced g) listed → made_in g t value listed ≡ made_in g u value listed
    same-made t u f [] h = refl
    same-made t u f (x ∷ xs) h =
        let e = ap (λ (b : Bool). value x * cond b 1 0 + made_in g t value xs) (f (made g x) h.0.0) in
        e ∙ ap (λ (n : ℕ). value x * cond (u (made g x)) 1 0 + n) (same-made t u f xs h.1)

    pub same-used : (t u : OrNode → Bool) → Agree t u → (listed : List ArcKey) → Each (AreNodesPlaced g) listed → used_in g t value listed ≡ used_in g u value listed
    same-used t u f [] h = refl
    same-used t u f (x ∷ xs) h =
        let e = ap (λ (n : ℕ). value x * n + used_in g t value xs) (same_count t u f (used g x) h.0.1) in
        e ∙ ap (λ (n : ℕ). value x * count u (used g x) + n) (same-used t u f xs h.1)

    -- the sums of a node are those at its place
    pub made-at : (o : OrNode) → IsPlaced g o → (listed : List ArcKey) → Each (AreNodesPlaced g) listed → made_sum g listed value o ≡ made_in g (at g (node_place g o)) value listed
    made-at o h listed all = same-made (same_node o) (at g (node_place g o)) (λ q k. place-tells g o q h k) listed all

    pub used-at : (o : OrNode) → IsPlaced g o → (listed : List ArcKey) → Each (AreNodesPlaced g) listed → used_sum g listed value o ≡ used_in g (at g (node_place g o)) value listed
    used-at o h listed all = same-used (same_node o) (at g (node_place g o)) (λ q k. place-tells g o q h k) listed all

    -- a node with a place passes the test, or both sums are 0
    pub touched : (t : OrNode → Bool) (listed : List ArcKey) → Each (AreNodesPlaced g) listed
        → ((o : OrNode) × IsPlaced g o × (t o ≡ true)) ⊎ ((made_in g t value listed ≡ 0) × (used_in g t value listed ≡ 0))
    touched t [] h = inr (refl, refl)
    touched t (x ∷ xs) h = by (t (made g x)) refl (found t (used g x) h.0.1) (touched t xs h.1)
      where
        by : (b : Bool) → t (made g x) ≡ b → ((o : OrNode) × IsPlaced g o × (t o ≡ true)) ⊎ (count t (used g x) ≡ 0)
            → ((o : OrNode) × IsPlaced g o × (t o ≡ true)) ⊎ ((made_in g t value xs ≡ 0) × (used_in g t value xs ≡ 0))
            → ((o : OrNode) × IsPlaced g o × (t o ≡ true)) ⊎ ((made_in g t value (x ∷ xs) ≡ 0) × (used_in g t value (x ∷ xs) ≡ 0))
        by true e f rest = inl (made g x, h.0.0, e)
        by false e (inl k) rest = inl k
        by false e (inr z) (inl k) = inl k
        by false e (inr z) (inr r) =
            let a = ap (λ (b : Bool). value x * cond b 1 0) e in
            let b = ap (λ (n : ℕ). value x * n) z in
            inr (omega (arith, a, r.0), omega (arith, b, r.1))
