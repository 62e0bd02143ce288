-- Items and arcs by their places in a list.
use Rattle.std.proofs.Common.{◌≡◌, ℕ, suc, arith, ◌+◌, ◌*◌, Bool, true, false, cond, List, [], ◌∷◌, Some, refl, ap, ◌∙◌}
use Rattle.std.specs.Prelude.{slice_get}
use Rattle.model_rosters.specs.declared.grammar.ArcKey.{ArcKey}
use Rattle.model_rosters.specs.declared.grammar.Grammar.{Grammar}
use Rattle.model_rosters.specs.Folds.{sum_n, In}
use Rattle.model_rosters.specs.Arcs.{IsArc}
use Rattle.model_rosters.proofs.EachLemmas.{get-in, in-get}
use Rattle.tree_graph.specs.Graphs.{HasArcs, places_from}

-- a sum over the places of the items that pass is one over all items
module _ {A : Type 0} (p : A → Bool) (f : ℕ → ℕ) (value : A → ℕ) where
  pub place-sum : (n : ℕ) (xs : List A) → ((j : ℕ) (x : A) → slice_get xs j ≡ Some x → f (n + j) ≡ value x) → sum_n f (places_from n p xs) ≡ sum_n (λ x. value x * cond (p x) 1 0) xs
  place-sum n [] h = refl
  place-sum n (x ∷ xs) h = by (p x) refl (place-sum (n + 1) xs (λ j y e. let s : n + 1 + j ≡ n + suc j = omega arith in ap f s ∙ h (suc j) y e))
    where
      here : f n ≡ value x
      here = let s : n ≡ n + 0 = omega arith in ap f s ∙ h 0 x refl

      by : (b : Bool) → p x ≡ b → sum_n f (places_from (n + 1) p xs) ≡ sum_n (λ x. value x * cond (p x) 1 0) xs
          → sum_n f (cond b (n ∷ places_from (n + 1) p xs) (places_from (n + 1) p xs)) ≡ value x * cond b 1 0 + sum_n (λ x. value x * cond (p x) 1 0) xs
      by true e ih = let k = here in omega (arith, k, ih)
      by false e ih = omega (arith, ih)

module _ (g : Grammar) (xs : List ArcKey) (arcs : HasArcs g xs) where
  -- the arcs of a graph are those of the instance
  pub in-graph : (a : ArcKey) → In a xs → IsArc g a
  in-graph a h = let r = in-get xs a h in arcs.sound r.0 a r.1

  pub of-graph : (a : ArcKey) → IsArc g a → In a xs
  of-graph a is = let r = arcs.whole a is in get-in xs r.0 a r.1
