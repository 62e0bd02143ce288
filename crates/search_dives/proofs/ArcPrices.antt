-- The price of an arc by its place in a graph.
use Rattle.std.proofs.Common.{◌≡◌, ℕ, ℤ, pos, zero, suc, arith, cond, Some, List, [], ◌∷◌, refl, sym, subst, ap, ◌∙◌, slice_index_or, inl, inr}
use Rattle.std.specs.Prelude.{slice_get}
use Rattle.std.proofs.lemmas.Option.{same_Some}
use Rattle.model_rosters.specs.declared.grammar.ArcKey.{ArcKey}
use Rattle.model_rosters.specs.Arcs.{same_arc}
use Rattle.model_rosters.specs.Folds.{In}
use Rattle.model_rosters.proofs.arc_laws.SameArc.{Told, arc_tells, same_arc-refl}
use Rattle.model_rosters.specs.arc_laws.Lists.{StandOnce}
use Rattle.tree_graph.specs.Graphs.{GraphView, IsGraph}
use Rattle.model_rosters.specs.declared.grammar.Grammar.{Grammar}
use Rattle.search_dives.specs.Widths.{price_at}

-- the arcs behind the first stand at one place too
rest-once : (b : ArcKey) (bs : List ArcKey) → StandOnce (b ∷ bs) → StandOnce bs
rest-once b bs once p q a e f = let s = once (suc p) (suc q) a e f in omega (arith, s)

-- the price of an arc that stands at a place is the one there
pub found-price : (listed : List ArcKey) (prices : List ℤ) → StandOnce listed → (k : ℕ) (a : ArcKey) → slice_get listed k ≡ Some a
    → price_at listed prices a ≡ slice_index_or prices k (pos 0)
found-price [] prices once k a e = cc
found-price (b ∷ bs) [] once k a e = refl
found-price (b ∷ bs) (p ∷ ps) once zero a e =
    subst (λ (x : ArcKey). cond (same_arc a x) p (price_at bs ps a) ≡ p) (sym (same_Some b a e)) (ap (λ t. cond t p (price_at bs ps a)) (same_arc-refl a))
found-price (b ∷ bs) (p ∷ ps) once (suc k) a e = by (arc_tells a b) (found-price bs ps (rest-once b bs once) k a e)
  where
    by : Told a b → price_at bs ps a ≡ slice_index_or ps k (pos 0) → cond (same_arc a b) p (price_at bs ps a) ≡ slice_index_or ps k (pos 0)
    by (inl t) rest = absurd (let s = once 0 (suc k) a (ap Some (sym t.2)) e in omega (arith, s))
    by (inr t) rest = ap (λ x. cond x p (price_at bs ps a)) t.0 ∙ rest

-- and that of an arc that stands at none is 0
pub no-price : (listed : List ArcKey) (prices : List ℤ) (a : ArcKey) → (In a listed → ⊥) → price_at listed prices a ≡ pos 0
no-price [] prices a absent = refl
no-price (b ∷ bs) [] a absent = refl
no-price (b ∷ bs) (p ∷ ps) a absent = by (arc_tells a b) (no-price bs ps a (λ h. absent (inr h)))
  where
    by : Told a b → price_at bs ps a ≡ pos 0 → cond (same_arc a b) p (price_at bs ps a) ≡ pos 0
    by (inl t) rest = absurd (absent (inl t.2))
    by (inr t) rest = ap (λ x. cond x p (price_at bs ps a)) t.0 ∙ rest

-- the arcs of a graph stand at one place
pub graph-once : (g : Grammar) (v : GraphView) → IsGraph g v → StandOnce v.arcs
graph-once g v is = is.arcs.once
